use Rattle.std.proofs.Common.{◌≡◌, ◌+◌, ◌++◌, ◌<◌, List, Some, ap, arith, get_or, length, sym, ◌∙◌}
use Rattle.std.specs.Prelude.{map}
use Rattle.std.specs.List.{slice_get}
use Rattle.std.proofs.lemmas.List.{take_all}
use Rattle.std.proofs.lemmas.Option.{slice_get-get_or}
use Rattle.list_lemmas.proofs.Fronts.{map-map}
use Rattle.road_base.specs.declared.coordinates.Point.{Point}
use Rattle.road_base.specs.declared.segments.Place.{Place}
use Rattle.metric_make.specs.RoadMetric.{road_of}
use Rattle.road_places.specs.declared.walks.Route.{Route}
use Rattle.route_steps.specs.Points.{points_along}
use Rattle.route_steps.specs.Steps.{joined}
use Rattle.reply_texts.specs.Legs.{Leg, points_behind}
use Rattle.reply_texts.specs.RouteLegs.{ends_and_routes, leg_told}
use Rattle.reply_texts.proofs.LegLemmas.{joined-more, leg-at, legs-count, permitted-at, places-enough}
use Rattle.reply_texts.proofs.route_lines.line_points.Goals as goal

pub bounds-places-leg : goal.bounds-places-leg
bounds-places-leg c =
    let places = c.args.places.now in
    let routes = c.args.routes.now in
    let road = road_of c.args.network.now c.args.base.now in
    let along = c.requires.permitted in
    let k = c.loop-leg.leg in
    let inside : k < length routes = omega arith in
    let enough = places-enough road places routes along k inside in
    omega arith

pub bounds-places-leg-in-loop-leg : goal.bounds-places-leg-in-loop-leg
bounds-places-leg-in-loop-leg c =
    let places = c.args.places.now in
    let routes = c.args.routes.now in
    let road = road_of c.args.network.now c.args.base.now in
    let along = c.requires.permitted in
    let k = c.loop-leg.leg in
    let inside : k < length routes = omega arith in
    let enough = places-enough road places routes along k inside in
    enough

pub leg_points-requires-clause-from : goal.leg_points-requires-clause-from
leg_points-requires-clause-from c =
    let places = c.args.places.now in
    let routes = c.args.routes.now in
    let road = road_of c.args.network.now c.args.base.now in
    let along = c.requires.permitted in
    let k = c.loop-leg.leg in
    let inside : k < length routes = omega arith in
    let enough = places-enough road places routes along k inside in
    c.requires.placed k _ (slice_get-get_or places k (record { segment = 0; at = 0 }) (omega arith))

pub leg_points-requires-clause-to : goal.leg_points-requires-clause-to
leg_points-requires-clause-to c =
    let places = c.args.places.now in
    let routes = c.args.routes.now in
    let road = road_of c.args.network.now c.args.base.now in
    let along = c.requires.permitted in
    let k = c.loop-leg.leg in
    let inside : k < length routes = omega arith in
    let enough = places-enough road places routes along k inside in
    c.requires.placed (k + 1) _ (slice_get-get_or places (k + 1) (record { segment = 0; at = 0 }) (omega arith))

pub leg_points-requires-clause-walk : goal.leg_points-requires-clause-walk
leg_points-requires-clause-walk c =
    let places = c.args.places.now in
    let routes = c.args.routes.now in
    let road = road_of c.args.network.now c.args.base.now in
    let along = c.requires.permitted in
    let k = c.loop-leg.leg in
    let nowhere : Place = record { segment = 0; at = 0 } in
    let from = get_or places k nowhere in
    let to = get_or places (k + 1) nowhere in
    let route = c.index-routes-leg.result in
    let inside : k < length routes = omega arith in
    let enough = places-enough road places routes along k inside in
    let first : slice_get places k ≡ Some from = slice_get-get_or places k nowhere (omega arith) in
    let second : slice_get places (k + 1) ≡ Some to = slice_get-get_or places (k + 1) nowhere (omega arith) in
    let third : slice_get routes k ≡ Some route = slice_get-get_or routes k route inside ∙ ap Some (sym c.index-routes-leg.is) in
    (c.args.base.now.weights, route.cost, rw (c.as_slice-walk.ensures ∙ ap (λ (r : Route). r.walk) (sym c.index-routes-leg.is)) (permitted-at road places routes along k from to route first second third))

-- one more
pub loop-leg-preserved : goal.loop-leg-preserved
loop-leg-preserved c =
    let places = c.args.places.now in
    let routes = c.args.routes.now in
    let road = road_of c.args.network.now c.args.base.now in
    let along = c.requires.permitted in
    let k = c.loop-leg.leg in
    let nowhere : Place = record { segment = 0; at = 0 } in
    let from = get_or places k nowhere in
    let to = get_or places (k + 1) nowhere in
    let route = c.index-routes-leg.result in
    let inside : k < length routes = omega arith in
    let enough = places-enough road places routes along k inside in
    let first : slice_get places k ≡ Some from = slice_get-get_or places k nowhere (omega arith) in
    let second : slice_get places (k + 1) ≡ Some to = slice_get-get_or places (k + 1) nowhere (omega arith) in
    let third : slice_get routes k ≡ Some route = slice_get-get_or routes k route inside ∙ ap Some (sym c.index-routes-leg.is) in
    let told = λ (pair : (Place × Place) × Route). (leg_told road pair).points in
    let leg = leg-at road places routes along k from to route first second third ((from, to), route) in
    joined-more told (ends_and_routes places routes) k ((from, to), route) c.loop-leg.points.items _ (omega (arith, legs-count road places routes along)) c.loop-leg.invariant
    (c.in_ok-extend_from_slice.ensures.items ∙ ap (λ (points : List Point). c.loop-leg.points.items ++ points)
    (c.later_points.ensures ∙ ap (points_behind k)
    (c.as_slice.ensures ∙ c.in_ok-told.ensures ∙ ap (points_along c.args.network.now.segments from to) (c.as_slice-walk.ensures ∙ ap (λ (r : Route). r.walk) (sym c.index-routes-leg.is)) ∙ ap told (sym leg))))

-- all of them
pub returns : goal.returns
returns c =
    let road = road_of c.args.network.now c.args.base.now in
    let pairs = ends_and_routes c.args.places.now c.args.routes.now in
    let count = legs-count road c.args.places.now c.args.routes.now c.requires.permitted in
    c.loop-leg.invariant ∙ ap (λ (part : List ((Place × Place) × Route)). joined (map (λ pair. (leg_told road pair).points) part)) (take_all c.loop-leg.leg pairs (omega (arith, count)))
    ∙ ap joined (sym (map-map (λ (leg : Leg). leg.points) (leg_told road) pairs))
