-- One walk through a list of places: a walk along each leg, each of which goes on along the very vertex on which the one
-- before it ends, so at each place the walk goes on as it came there, and no forbidden sequence runs along all of it, not
-- across places either (OSRM's `continue_straight`; that the walks are least together is this project's rule).
use Rattle.std.specs.Prelude.{◌≡◌, ℕ, ◌+◌, ◌<◌, List, [], ◌∷◌, ◌++◌, drop, length, map, take}
use Rattle.road_base.specs.declared.segments.Place.{Place}
use Rattle.search_graph.specs.declared.costs.WeightDurLen.{WeightDurLen}
use Rattle.search_graph.specs.Costs.{NoDearer}
use Rattle.search_graph.specs.RoadCosts.{road_cost_ops}
use Rattle.metric_make.specs.RoadMetric.{RoadMetric}
use Rattle.road_places.specs.Paid.{total_of}
use Rattle.road_places.specs.declared.walks.Route.{Route}
use Rattle.road_walks.specs.Legs.{AreAlong}
use Rattle.road_walks.specs.declared.leg_faults.LegFault.{LegFault}
use Rattle.road_walks.specs.declared.leg_faults.LegFault.TheVariants.{NoWalk, Memory}
use Rattle.via_paths.specs.Forbidden.{IsFree}

-- the walk begins with vertex v
abbrev pub BeginsWith : List ℕ → ℕ → Type 0
BeginsWith walk v = (rest : List ℕ) × (walk ≡ v ∷ rest)

-- it ends with vertex v
abbrev pub EndsWith : List ℕ → ℕ → Type 0
EndsWith walk v = (front : List ℕ) × (walk ≡ front ++ v ∷ [])

-- the next route begins with the vertex on which this one ends
abbrev pub GoesOn : Route → Route → Type 0
GoesOn route next = (v : ℕ) × EndsWith route.walk v × BeginsWith next.walk v

-- so does each of them behind the one before it
abbrev pub AreJoined : List Route → Type 0
AreJoined [] = Unit {0}
AreJoined (route ∷ []) = Unit {0}
AreJoined (route ∷ next ∷ more) = GoesOn route next × AreJoined (next ∷ more)

-- what these walks add to one before them: each of them without its first vertex, which is the last one before it
abbrev pub walks_behind : List Route → List ℕ
walks_behind [] = []
walks_behind (route ∷ routes) = drop 1 route.walk ++ walks_behind routes

-- the walks as one
abbrev pub joined_walks : List Route → List ℕ
joined_walks [] = []
joined_walks (route ∷ routes) = route.walk ++ walks_behind routes

-- a permitted walk along each leg, and together they are one walk along which no forbidden sequence runs
pub record IsThrough (road : RoadMetric) (places : List Place) (routes : List Route) : Type 0 where
  pub along : AreAlong road places routes
  pub joined : AreJoined routes
  pub free : IsFree road.network.forbidden (joined_walks routes)

-- what the routes cost together; no bound is set to the sum
abbrev pub cost_of_all : List Route → WeightDurLen
cost_of_all routes = total_of (map (λ (route : Route). route.cost) routes)

-- the routes are one walk through the places, and no such walk costs less
pub record IsLeastThrough (road : RoadMetric) (places : List Place) (routes : List Route) : Type 0 where
  pub through : IsThrough road places routes
  pub least : (others : List Route) → IsThrough road places others → NoDearer road_cost_ops (cost_of_all routes) (cost_of_all others)

-- some walk leads through the places
abbrev pub HasThrough : RoadMetric → List Place → Type 0
HasThrough road places = (routes : List Route) × IsThrough road places routes

-- the leg of this number is the first behind which no walk through all places up to there reaches
pub record IsBrokenThrough (road : RoadMetric) (places : List Place) (leg : ℕ) : Type 0 where
  pub inside : leg + 1 < length places
  pub before : HasThrough road (take (leg + 1) places)
  pub none : ¬ HasThrough road (take (leg + 2) places)

-- what a fault tells of the legs; want of memory tells nothing
abbrev pub IsThroughFault : RoadMetric → List Place → LegFault → Type 0
IsThroughFault road places (NoWalk leg) = IsBrokenThrough road places leg
IsThroughFault road places Memory = Unit {0}
