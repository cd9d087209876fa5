-- The legs of a route through a list of places, and the routes along them.
use Rattle.std.specs.Prelude.{ℕ, List, All, drop}
use Rattle.std.specs.List.{AllZip, zip}
use Rattle.road_base.specs.declared.segments.Place.{Place}
use Rattle.search_graph.specs.declared.costs.WeightDurLen.{WeightDurLen}
use Rattle.search_graph.specs.Costs.{NoDearer}
use Rattle.search_graph.specs.RoadCosts.{road_cost_ops}
use Rattle.road_places.specs.Permitted.{IsPermitted}
use Rattle.metric_make.specs.RoadMetric.{RoadMetric}
use Rattle.road_places.specs.declared.walks.Route.{Route}
use Rattle.road_walks.specs.FirstFailure.{IsFirstFailure}
use Rattle.road_walks.specs.Least.{HasNoRoute, IsLeastRoute}
use Rattle.road_walks.specs.declared.leg_faults.LegFault.{LegFault}
use Rattle.road_walks.specs.declared.leg_faults.LegFault.TheVariants.{NoWalk, Memory}

-- from each place to the next
abbrev pub legs_of : List Place → List (Place × Place)
legs_of places = zip places (drop 1 places)

-- the route is a permitted walk along the leg, and its cost is what that costs
abbrev pub IsAlongLeg : RoadMetric → Place × Place → Route → Type 0
IsAlongLeg road leg route = IsPermitted road leg.0 leg.1 route.walk route.cost

-- it is one, and none costs less
abbrev pub IsLeastAlong : RoadMetric → Place × Place → Route → Type 0
IsLeastAlong road leg route = IsLeastRoute road leg.0 leg.1 route.walk route.cost

-- no permitted walk along the leg costs less than the route
abbrev pub CostsLeast : RoadMetric → Place × Place → Route → Type 0
CostsLeast road leg route = (other : List ℕ) (e : WeightDurLen) → IsPermitted road leg.0 leg.1 other e → NoDearer road_cost_ops route.cost e

-- a route along each leg, in their order
abbrev pub AreAlong : RoadMetric → List Place → List Route → Type 0
AreAlong road places routes = AllZip (IsAlongLeg road) (legs_of places) routes

-- none of them could cost less
abbrev pub AreLeastRoutes : RoadMetric → List Place → List Route → Type 0
AreLeastRoutes road places routes = AllZip (CostsLeast road) (legs_of places) routes

-- some permitted walk leads along the leg
abbrev pub HasWalk : RoadMetric → Place × Place → Type 0
HasWalk road leg = (walk : List ℕ) × (cost : WeightDurLen) × IsPermitted road leg.0 leg.1 walk cost

-- none does
abbrev pub HasNoWalk : RoadMetric → Place × Place → Type 0
HasNoWalk road leg = HasNoRoute road leg.0 leg.1

-- each of them costs so many units at most
abbrev pub AreWithinUnits : ℕ → List Route → Type 0
AreWithinUnits n routes = All (λ route. road_cost_ops.units route.cost n) routes

-- the leg of this number is the first without a walk
abbrev pub IsBrokenLeg : RoadMetric → List Place → ℕ → Type 0
IsBrokenLeg road places leg = IsFirstFailure (HasWalk road) (HasNoWalk road) (legs_of places) leg

-- what a fault tells of the legs; want of memory tells nothing
abbrev pub IsLegFault : RoadMetric → List Place → LegFault → Type 0
IsLegFault road places (NoWalk leg) = IsBrokenLeg road places leg
IsLegFault road places Memory = Unit {0}
