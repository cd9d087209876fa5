-- Trips by the numbers of their nodes, and by what comes of them.
use Rattle.std.proofs.Common.{◌≡◌, ◌<◌, ◌≤◌, ◌*◌, ◌/◌, ℕ, List, [], ◌∷◌, Some, None, ap, arith, length, refl, subst, ◌∙◌}
use Rattle.std.specs.List.{range_with_len}
use Rattle.std.proofs.Math.Nat.{div-lt_iff_lt-mul}
use Rattle.list_lemmas.proofs.Fronts.{all_zip-length}
use Rattle.search_graph.specs.Digraph.{Weighting}
use Rattle.search_graph.specs.declared.costs.WeightDurLen.{WeightDurLen}
use Rattle.edge_graph.specs.GraphLaws.{segments-in-graph}
use Rattle.edge_graph.specs.NetworkView.{NetworkView, graph_of}
use Rattle.road_base.specs.declared.segments.Place.{Place}
use Rattle.road_places.specs.declared.walks.Route.{Route}
use Rattle.road_walks.specs.Least.{IsRouteAnswer}
use Rattle.town_drill.specs.Drill.{AreTrips, IsLine, line_text, metric_road}
use Rattle.geo_integer.specs.Position.{Position}
use Rattle.metric_make.specs.RoadMetric.{RoadMetric}
use Rattle.town_drill.specs.Asked.{node_position, start_of, stop_of}
use Rattle.town_drill.specs.Trips.{IsTrip, StandsAt}
use Rattle.town_drill.specs.declared.trips.Trip.{Trip}
use Rattle.town_drill.specs.declared.trips.Trip.TheVariants.{Arrives, NoRoute}

-- each vertex of the network of a road has a cost, or is closed
pub vertices-weighed : (road : RoadMetric) (network : NetworkView) (weights : Weighting WeightDurLen) → network ≡ road.network → weights ≡ road.weights → length road.weights.vertex ≡ (graph_of road.network).vertices → 2 * length network.segments ≤ length weights.vertex
vertices-weighed road network weights n w many =
    let listed : length weights.vertex ≡ (graph_of road.network).vertices = ap (λ (x : Weighting WeightDurLen). length x.vertex) w ∙ many in
    let same : length network.segments ≡ length road.network.segments = ap (λ (x : NetworkView). length x.segments) n in
    omega (arith, listed, same, segments-in-graph road.network)

-- a trip between two positions, which are those of its nodes
pub trip-between : (road : RoadMetric) (n k q : ℕ) (from to : Position) (a b : ℕ) (trip : Trip) → from ≡ node_position n a → a ≡ start_of n k q → to ≡ node_position n b → b ≡ stop_of n k q
    → IsTrip road from to trip → IsTrip road (node_position n (start_of n k q)) (node_position n (stop_of n k q)) trip
trip-between road n k q from to a b trip starts start stops stop h =
    subst (λ (x : Position). IsTrip road x (node_position n (stop_of n k q)) trip) (starts ∙ ap (λ i. node_position n i) start)
    (subst (λ (y : Position). IsTrip road from y trip) (stops ∙ ap (λ i. node_position n i) stop) h)

-- a least route between the places of both ends, and none
module _ (road : RoadMetric) (from to : Position) (p q : Place) (starts : StandsAt road from p) (stops : StandsAt road to q) where
  pub arrives : (route : Route) → IsRouteAnswer road p q (Some route) → IsTrip road from to (Arrives route.cost.duration)
  arrives route least = record { start = p; stop = q; starts = starts; stops = stops; walk = route.walk; cost = route.cost; least = least; duration = refl }

  pub cut-off : IsRouteAnswer road p q None → IsTrip road from to NoRoute
  cut-off none = record { start = p; stop = q; starts = starts; stops = stops; none = none }

-- there are sixteen trips
pub trip-count : (road : RoadMetric) (n k : ℕ) (trips : List Trip) → AreTrips road n k (range_with_len 0 16) trips → length trips ≤ 16
trip-count road n k trips h =
    let same = all_zip-length (λ i trip. IsTrip road (node_position n (start_of n k i)) (node_position n (stop_of n k i)) trip) (range_with_len 0 16) trips h in
    omega (arith, same)

-- the line on them
pub line-on : (network : NetworkView) (n k : ℕ) (road : RoadMetric) (trips : List Trip) (text : List ℕ) → road ≡ metric_road network n k → AreTrips road n k (range_with_len 0 16) trips
    → text ≡ line_text k trips → IsLine network n k text
line-on network n k road trips text is are told = (trips, subst (λ (r : RoadMetric). AreTrips r n k (range_with_len 0 16) trips) is are, told)

-- the row of a node's number is one of the town's
pub row-below : (n number : ℕ) → 1 ≤ n → number < n * n → number / n < n
row-below n number some h = (div-lt_iff_lt-mul (let pos : 0 < n = omega arith in pos)).1 h
