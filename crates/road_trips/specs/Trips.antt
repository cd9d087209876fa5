-- Trips through places on roads: the best one by what least walks cost, where it stops, and a least route along each
-- of its legs (this project's rule, over OSRM's trip service).
use Rattle.std.specs.Prelude.{◌≡◌, ℕ, ◌+◌, ◌≤◌, Bool, List, Option, Some, None, MatchOption, length}
use Rattle.std.specs.List.{filter_map, slice_get}
use Rattle.road_base.specs.declared.segments.Place.{Place}
use Rattle.search_graph.specs.declared.costs.WeightDurLen.{WeightDurLen}
use Rattle.search_graph.specs.RoadCosts.{road_cost_ops}
use Rattle.trip_query.specs.Trips.{IsBestTrip, stops}
use Rattle.trip_query.specs.declared.rules.Rule.{Rule}
use Rattle.trip_query.specs.declared.trips.Trip.{Trip}
use Rattle.edge_graph.specs.NetworkView.{NetworkView}
use Rattle.road_places.specs.Places.{ArePlacesOn}
use Rattle.metric_make.specs.RoadMetric.{RoadMetric}
use Rattle.road_walks.specs.Least.{most_units}
use Rattle.road_walks.specs.Legs.{AreAlong, AreLeastRoutes, AreWithinUnits}
use Rattle.road_walks.specs.Tables.{AreRowsOf}
use Rattle.road_trips.specs.declared.road_trips.RoadTrip.{RoadTrip}

-- the places of these numbers, in their order
abbrev pub places_at : List Place → List ℕ → List Place
places_at places numbers = filter_map (slice_get places) numbers

-- the places at which a trip in this order stops, on a round trip the first of them again at its end
abbrev pub stops_at : List Place → Bool → List ℕ → List Place
stops_at places round order = places_at places (stops round order)

-- the best of the trips through the places that the rule admits, by what least permitted walks from each place to
-- each cost; none exactly where each of these trips has a leg that lacks a permitted walk
abbrev pub IsBestThrough : RoadMetric → List Place → Rule → Option (Trip WeightDurLen) → Type 0
IsBestThrough road places rule answer = (rows : List (List (Option WeightDurLen))) × AreRowsOf road places places rows × IsBestTrip road_cost_ops rows rule answer

-- this is the best of them, with the places at which it stops and a permitted walk along each leg, of which none could
-- cost less
pub record IsTripThrough (road : RoadMetric) (places : List Place) (rule : Rule) (trip : RoadTrip) : Type 0 where
  pub best : IsBestThrough road places rule (Some trip.best)
  pub stops : trip.stops.items ≡ stops_at places rule.roundtrip trip.best.order
  pub along : AreAlong road trip.stops.items trip.routes.items
  pub least : AreLeastRoutes road trip.stops.items trip.routes.items

-- what else holds of it: its order has all places, there is a route from each of at most ten stops to the next, the
-- stops are on the network, and no route costs too much
pub record IsBounded (network : NetworkView) (places : List Place) (trip : RoadTrip) : Type 0 where
  pub order : length trip.best.order ≡ length places
  pub one_each : length trip.routes.items + 1 ≡ length trip.stops.items
  pub few : length trip.stops.items ≤ 10
  pub placed : ArePlacesOn network trip.stops.items
  pub units : AreWithinUnits (most_units network) trip.routes.items

-- such a trip, or none exactly where there is none
abbrev pub IsTripAnswer : RoadMetric → List Place → Rule → Option RoadTrip → Type 0
IsTripAnswer road places rule answer = MatchOption answer (IsBestThrough road places rule None) (IsTripThrough road places rule)
