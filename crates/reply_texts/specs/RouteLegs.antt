-- The legs of a route on roads, from each place to the next: all that a reply tells of a leg comes from one
-- permitted walk.
use Rattle.std.specs.Prelude.{◌^◌, List, All, drop, map}
use Rattle.std.specs.List.{AllZip, zip}
use Rattle.road_base.specs.declared.segments.Place.{Place}
use Rattle.search_graph.specs.RoadCosts.{road_cost_ops}
use Rattle.road_places.specs.Paid.{paid_along}
use Rattle.road_places.specs.Permitted.{IsPermitted}
use Rattle.metric_make.specs.RoadMetric.{RoadMetric}
use Rattle.road_places.specs.declared.walks.Route.{Route}
use Rattle.route_steps.specs.Annotations.{nodes_along}
use Rattle.route_steps.specs.Points.{points_along}
use Rattle.route_steps.specs.Steps.{steps_along}
use Rattle.reply_texts.specs.Legs.{Leg}

-- a leg from the first place to the second, along this route
abbrev pub leg_told : RoadMetric → (Place × Place) × Route → Leg
leg_told road (ends, route) = record {
  cost = route.cost;
  paid = paid_along road.weights ends.0 ends.1 route.walk;
  nodes = nodes_along road.network.segments route.walk;
  points = points_along road.network.segments ends.0 ends.1 route.walk;
  steps = steps_along road ends.0 ends.1 route.walk;
}

-- each place and the next, with the route between the two
abbrev pub ends_and_routes : List Place → List Route → List ((Place × Place) × Route)
ends_and_routes places routes = zip (zip places (drop 1 places)) routes

abbrev pub legs_told : RoadMetric → List Place → List Route → List Leg
legs_told road places routes = map (leg_told road) (ends_and_routes places routes)

-- a permitted walk leads from each place to the next, and costs what is said
abbrev pub IsPermittedLeg : RoadMetric → Place × Place → Route → Type 0
IsPermittedLeg road ends route = IsPermitted road ends.0 ends.1 route.walk route.cost

abbrev pub ArePermitted : RoadMetric → List Place → List Route → Type 0
ArePermitted road places routes = AllZip (IsPermittedLeg road) (zip places (drop 1 places)) routes

-- no route costs so much that what its steps cost can't be added up
abbrev pub AreSmall : List Route → Type 0
AreSmall routes = All (λ route. road_cost_ops.units route.cost (2 ^ 30)) routes
