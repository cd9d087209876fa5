-- How an answer comes from its parts.
use Rattle.std.proofs.Common.{◌≡◌, inl, inr, ℕ, zero, suc, Bool, true, false, eqb, ap₂, map, ◌<◌, ◌≤◌, ◌^◌, ◌*◌, List, [], ◌∷◌, length, sym, ap, subst, refl, ◌∙◌, arith}
use Rattle.std.specs.Prelude.{All, Option, Some, Result, Ok, Err, IfErr, option_map}
use Rattle.std.specs.Result.{IsErrAnd}
use Rattle.std.specs.List.{AllByRecursion, AllZip, slice_get, zip}
use Rattle.std.proofs.lemmas.Bool.{eqb-true}
use Rattle.std.proofs.lemmas.List.{length-map}
use Rattle.std.proofs.lemmas.List.Elements.{All-weaker}
use Rattle.std.proofs.lemmas.Option.{same_Some, slice_get-map}
use Rattle.std.proofs.lemmas.Slice.Zip.{length-zip}
use Rattle.list_lemmas.proofs.Fronts.{all_zip-each, all_zip-first, slice_get-zip}
use Rattle.road_base.specs.declared.coordinates.Point.{Point}
use Rattle.road_base.specs.declared.segments.Place.{Place}
use Rattle.geo_integer.specs.Position.{position_of}
use Rattle.road_places.specs.Places.{ArePlacesOn, IsPlaceOn}
use Rattle.metric_make.specs.RoadMetric.{RoadMetric, road_of}
use Rattle.road_places.specs.declared.walks.Route.{Route}
use Rattle.search_graph.specs.declared.costs.WeightDurLen.{WeightDurLen}
use Rattle.search_graph.specs.Digraph.{Digraph, Weighting}
use Rattle.search_graph.specs.RoadCosts.{road_cost_laws, road_cost_ops}
use Rattle.search_graph.specs.Faults.{AllInRange}
use Rattle.edge_graph.specs.GraphLaws.{segments-in-graph}
use Rattle.edge_graph.specs.NetworkView.{NetworkView, graph_of}
use Rattle.road_turns.specs.Turn.{IsSimple}
use Rattle.metric_make.specs.MetricOf.{MetricView}
use Rattle.reply_texts.specs.Replies.{route_reply}
use Rattle.reply_texts.specs.LegLaws.{IsToldInSteps, legs_told-steps}
use Rattle.reply_texts.specs.RouteLegs.{ArePermitted, AreSmall, legs_told}
use Rattle.reply_texts.specs.Waypoints.{waypoints_of}
use Rattle.road_walks.specs.Least.{most_units}
use Rattle.road_walks.specs.Legs.{AreAlong, AreWithinUnits}
use Rattle.road_walks.specs.declared.leg_faults.LegFault.{LegFault}
use Rattle.road_walks.specs.declared.leg_faults.LegFault.TheVariants as leg
use Rattle.snap_index.specs.Firsts.{AreFirsts}
use Rattle.snap_index.specs.declared.filters.Filter.{Filter}
use Rattle.snap_index.specs.declared.snapping.Snapped.{Snapped}
use Rattle.option_values.specs.declared.option_types.Bearing.{Bearing}
use Rattle.option_values.specs.declared.option_types.ContinueStraight.{ContinueStraight}
use Rattle.option_values.specs.declared.option_types.ContinueStraight.TheVariants as straight
use Rattle.url_read.specs.Request.{IsFitting, fewest, most, name_of_service}
use Rattle.url_read.specs.declared.requests.NearestOptions.{NearestOptions}
use Rattle.url_read.specs.declared.requests.Request.{Request}
use Rattle.url_read.specs.declared.requests.RouteOptions.{RouteOptions}
use Rattle.url_read.specs.declared.requests.Service.{Service}
use Rattle.url_read.specs.declared.requests.Service.TheVariants as service
use Rattle.url_read.specs.declared.requests.Telling.{Telling}
use Rattle.reply_core.specs.Asked.{asked_in, filter_of, filters_of}
use Rattle.reply_core.specs.Faults.{IsFoundFault, IsLegFaultBy, IsPlaceFault, leg_fault, place_fault}
use Rattle.reply_core.specs.Lacks.{IsRecent, IsStray, LacksPlace, StandsFor}
use Rattle.reply_core.specs.RouteAsked.{IsBrokenBy}
use Rattle.reply_core.specs.declared.lacks.PlaceFault.{PlaceFault}
use Rattle.reply_core.specs.declared.lacks.PlaceFault.TheVariants as place

-- the place stands for the coordinate, and lies on the network
abbrev pub IsFoundFor : RoadMetric → Point × Filter → Place → Type 0
IsFoundFor road asked place = StandsFor road asked place × IsPlaceOn road.network place

module _ (road : RoadMetric) (asked : List (Point × Filter)) (places : List Place) (h : AllZip (IsFoundFor road) asked places) where
  pub are-snapped : AllZip (StandsFor road) asked places
  are-snapped = all_zip-each (IsFoundFor road) (StandsFor road) (λ c p k. k.0) asked places h

  pub are-placed : ArePlacesOn road.network places
  are-placed k place at = let of = all_zip-first (IsFoundFor road) asked places k place h at in of.1.1

-- there are as many coordinates with filters as there are coordinates
pub asked-count : (request : Request) → length request.radiuses ≡ length request.points → length request.bearings ≡ length request.points → length (asked_in request) ≡ length request.points
asked-count request radiuses bearings =
    let pairs = length-zip request.radiuses request.bearings in
    let filters = length-map (zip request.radiuses request.bearings) filter_of in
    let all = length-zip request.points (filters_of request.radiuses request.bearings) in
    omega (arith, pairs, filters, all, radiuses, bearings)

-- the coordinate of a number has the radius and the bearing of this number
pub asked-at : (request : Request) (k : ℕ) (point : Point) (radius : Option ℕ) (bearing : Option Bearing)
    → slice_get request.points k ≡ Some point → slice_get request.radiuses k ≡ Some radius → slice_get request.bearings k ≡ Some bearing → slice_get (asked_in request) k ≡ Some (point, filter_of (radius, bearing))
asked-at request k point radius bearing p r b =
    let pair : slice_get (zip request.radiuses request.bearings) k ≡ Some (radius, bearing) = slice_get-zip request.radiuses request.bearings k radius bearing r b in
    let filter : slice_get (filters_of request.radiuses request.bearings) k ≡ Some (filter_of (radius, bearing)) =
    slice_get-map filter_of (zip request.radiuses request.bearings) k ∙ ap (option_map filter_of) pair in
    slice_get-zip request.points (filters_of request.radiuses request.bearings) k point (filter_of (radius, bearing)) p filter

-- a list of one element
pub one-element : {A : Type 0} (xs : List A) (x : A) → length xs ≡ 1 → slice_get xs 0 ≡ Some x → xs ≡ x ∷ []
one-element [] x one at = absurd (omega (arith, one))
one-element (y ∷ []) x one at = ap (λ z. z ∷ []) (same_Some y x at)
one-element (y ∷ z ∷ zs) x one at = absurd (omega (arith, one))

-- where no first place is found though one is asked for, there is none
pub none-found : (road : RoadMetric) (asked : Point × Filter) (number : ℕ) → 1 ≤ number → AreFirsts road.network.segments road.weights asked.1 (position_of asked.0) number [] → LacksPlace road asked
none-found road asked number some firsts = λ s other is kept. elim (firsts.others s other is kept) [
  | inl among ↦ among
  | inr full ↦ omega (arith, full.0, some)
]

-- the first coordinate is the first that has no place, if it has none
pub first-stray : (road : RoadMetric) (asked : List (Point × Filter)) (one : Point × Filter) → slice_get asked 0 ≡ Some one → LacksPlace road one → IsStray road asked 0
first-stray road asked one at lacks = record {
  it = one;
  is_there = at;
  fails = lacks;
  before = λ k other lt there. absurd (omega (arith, lt));
}

-- a request that fits its service has not too many coordinates
pub few-of : (asked : Service) (count : ℕ) → count ≤ most (name_of_service asked) → count < 2 ^ 32
few-of (service.Route own) count h = omega (arith, h)
few-of (service.Table own) count h = omega (arith, h)
few-of (service.Nearest own) count h = omega (arith, h)
few-of (service.Trip own) count h = omega (arith, h)

-- one for a route has two at least
pub two-of : (request : Request) (own : RouteOptions) → request.service ≡ service.Route own → IsFitting request → 2 ≤ length request.points
two-of request own is fitting = subst (λ (s : Service). fewest (name_of_service s) ≤ length request.points) is fitting.least

-- one for the nearest places has one
pub one-of : (request : Request) (own : NearestOptions) → request.service ≡ service.Nearest own → IsFitting request → length request.points ≡ 1
one-of request own is fitting =
    let least : 1 ≤ length request.points = subst (λ (s : Service). fewest (name_of_service s) ≤ length request.points) is fitting.least in
    let greatest : length request.points ≤ 1 = subst (λ (s : Service). length request.points ≤ most (name_of_service s)) is fitting.most in
    omega (arith, least, greatest)

-- what holds of a fault holds of the one that is handed on
pub fault-given : {T E : Type 0} (P : E → Type 0) (fault : E) (r : Result T E) → P fault → IsErrAnd r (λ given. given ≡ fault) → IfErr r P
fault-given P fault (Ok x) holds failed = absurd failed
fault-given P fault (Err given) holds same = subst P (sym same) holds

-- a fault of the coordinates is one of the request
pub place-fault : (road : RoadMetric) (number : ℕ) (request : Request) (fault : PlaceFault) → IsRecent number request → IsPlaceFault road (asked_in request) fault → IsFoundFault road number request (place_fault fault)
place-fault road number request (place.NoPlace coordinate) recent is = (recent, is)
place-fault road number request place.Memory recent is = tt

-- the leg that a fault names is the first that is lacking, however the legs are asked for
broken-leg : (asked : ContinueStraight) (road : RoadMetric) (places : List Place) (n : ℕ) → IsLegFaultBy asked road places (leg.NoWalk n) → IsBrokenBy asked road places n
broken-leg straight.Default road places n first = first
broken-leg straight.Off road places n first = first
broken-leg straight.On road places n first = first

-- and a fault of the legs is one of a request for a route
pub leg-fault : (road : RoadMetric) (number : ℕ) (request : Request) (own : RouteOptions) (places : List Place) (fault : LegFault) → request.service ≡ service.Route own → IsRecent number request
    → AllZip (StandsFor road) (asked_in request) places → IsLegFaultBy own.continue_straight road places fault → IsFoundFault road number request (leg_fault fault)
leg-fault road number request own places (leg.NoWalk n) is recent snapped first = (recent, record { own = own; service = is; places = places; snapped = snapped; first = broken-leg own.continue_straight road places n first })
leg-fault road number request own places leg.Memory is recent snapped first = tt

-- the routes of a network whose searched graph has so many vertices at most cost so little that their steps can be added up
pub few-units : (network : NetworkView) (routes : List Route) → (graph_of network).vertices ≤ 2 ^ 27 → AreWithinUnits (most_units network) routes → AreSmall routes
few-units network routes few within =
    All-weaker (λ (route : Route). road_cost_ops.units route.cost (most_units network)) (λ (route : Route). road_cost_ops.units route.cost (2 ^ 30))
    (λ route h. road_cost_laws.units_more route.cost (most_units network) (2 ^ 30) h (omega (arith, few))) routes within

-- a network and costs that are a road's
pub road-same : (road : RoadMetric) (network : NetworkView) (base : MetricView) → network ≡ road.network → base.weights ≡ road.weights → road_of network base ≡ road
road-same road network base n w = ap₂ {C = RoadMetric} (λ (x : NetworkView) (y : Weighting WeightDurLen). record { network = x; weights = y }) n w

-- each vertex of the network of a road has a cost, or is closed
pub vertices-weighed : (road : RoadMetric) (network : NetworkView) (base : MetricView) → network ≡ road.network → base.weights ≡ road.weights → length road.weights.vertex ≡ (graph_of road.network).vertices → 2 * length network.segments ≤ length base.weights.vertex
vertices-weighed road network base n w many =
    let listed : length base.weights.vertex ≡ (graph_of road.network).vertices = ap (λ (x : Weighting WeightDurLen). length x.vertex) w ∙ many in
    let same : length network.segments ≡ length road.network.segments = ap (λ (x : NetworkView). length x.segments) n in
    omega (arith, listed, same, segments-in-graph road.network)

-- and it has few segments
pub few-segments : (road : RoadMetric) (network : NetworkView) → network ≡ road.network → (graph_of road.network).vertices ≤ 2 ^ 27 → length network.segments < 2 ^ 30
few-segments road network n few =
    let same : length network.segments ≡ length road.network.segments = ap (λ (x : NetworkView). length x.segments) n in
    omega (arith, few, same, segments-in-graph road.network)

-- what leads along the legs of one road leads along those of the same one
pub permitted-on : (road : RoadMetric) (network : NetworkView) (base : MetricView) (places given : List Place) (routes walked : List Route) → network ≡ road.network → base.weights ≡ road.weights → given ≡ places → walked ≡ routes
    → AreAlong road places routes → ArePermitted (road_of network base) given walked
permitted-on road network base places given routes walked n w p r along =
    subst (λ (x : RoadMetric). ArePermitted x given walked) (sym (road-same road network base n w))
    (subst (λ (x : List Place). ArePermitted road x walked) (sym p) (subst (λ (x : List Route). ArePermitted road places x) (sym r) along))

-- and the reply is the same
pub route-told : (number : ℕ) (skip : Bool) (telling : Telling) (points : List Point) (road : RoadMetric) (network : NetworkView) (base : MetricView) (places given : List Place) (routes walked : List Route)
    → network ≡ road.network → base.weights ≡ road.weights → given ≡ places → walked ≡ routes
    → route_reply number skip telling network.profile (legs_told (road_of network base) given walked) (waypoints_of network.segments points given) ≡ route_reply number skip telling road.network.profile (legs_told road places routes) (waypoints_of road.network.segments points places)
route-told number skip telling points road network base places given routes walked n w p r =
    ap (λ (x : RoadMetric). route_reply number skip telling x.network.profile (legs_told x given walked) (waypoints_of x.network.segments points given)) (road-same road network base n w)
    ∙ ap (λ (x : List Place). route_reply number skip telling road.network.profile (legs_told road x walked) (waypoints_of road.network.segments points x)) p
    ∙ ap (λ (x : List Route). route_reply number skip telling road.network.profile (legs_told road places x) (waypoints_of road.network.segments points places)) r

-- and its legs are told in steps that add up
pub told-in-steps : (road : RoadMetric) (network : NetworkView) (places given : List Place) (routes : List Route) → network ≡ road.network → given ≡ places
    → IsSimple network.turns → AllInRange (2 * length network.segments) network.turns → ArePlacesOn road.network places → AreAlong road places routes → All IsToldInSteps (legs_told road given routes)
told-in-steps road network places given routes n p simple range on along =
    subst (λ (x : List Place). All IsToldInSteps (legs_told road x routes)) (sym p)
    (legs_told-steps road places routes (subst (λ (x : NetworkView). IsSimple x.turns) n simple)
    (subst (λ (x : NetworkView). AllInRange (2 * length x.segments) x.turns) n range) on along)

-- the first places on one road are those on the same one
pub firsts-on : (road : RoadMetric) (network : NetworkView) (base : MetricView) (asked : Point × Filter) (number : ℕ) (found : List Snapped) → network ≡ road.network → base.weights ≡ road.weights
    → AreFirsts network.segments base.weights asked.1 (position_of asked.0) number found → AreFirsts road.network.segments road.weights asked.1 (position_of asked.0) number found
firsts-on road network base asked number found n w firsts =
    subst (λ (x : NetworkView). AreFirsts x.segments road.weights asked.1 (position_of asked.0) number found) n
    (subst (λ (x : Weighting WeightDurLen). AreFirsts network.segments x asked.1 (position_of asked.0) number found) w firsts)

-- nothing was found
pub found-none : {A : Type 0} (found : List A) → eqb (length found) 0 ≡ true → found ≡ []
found-none [] none = refl
found-none (x ∷ xs) none = absurd (omega (arith, eqb-true (length (x ∷ xs)) 0 none))

-- or something was
pub found-some : {A : Type 0} (found : List A) → eqb (length found) 0 ≡ false → 0 < length found
found-some [] some = cc
found-some (x ∷ xs) some = omega arith

-- the places that were found are on the network
pub found-placed : (network : NetworkView) (found : List Snapped) → AllByRecursion (λ (one : Snapped). (one.place.segment < length network.segments) × (one.place.at ≤ 1024)) found
    → (k : ℕ) (place : Place) → slice_get (map (λ (one : Snapped). one.place) found) k ≡ Some place → IsPlaceOn network place
found-placed network [] all k place at = cc
found-placed network (x ∷ xs) all zero place at = subst (λ (p : Place). IsPlaceOn network p) (same_Some x.place place at) (record { on_segment = all.0.0; within = all.0.1 })
found-placed network (x ∷ xs) all (suc k) place at = found-placed network xs all.1 k place at
