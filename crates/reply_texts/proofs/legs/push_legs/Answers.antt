use Rattle.std.proofs.Common.{◌≡◌, ◌+◌, ◌^◌, ◌<◌, List, Some, ap, arith, get_or, length, subst, sym, ◌∙◌}
use Rattle.std.specs.List.{slice_get}
use Rattle.std.proofs.lemmas.List.Elements.{All-get_or}
use Rattle.std.proofs.lemmas.Option.{slice_get-get_or}
use Rattle.list_lemmas.proofs.Fronts.{map-map}
use Rattle.road_base.specs.declared.segments.Place.{Place}
use Rattle.search_graph.specs.RoadCosts.{road_cost_ops}
use Rattle.json_text.specs.Values.{JsonValue}
use Rattle.json_text.specs.Drafts.{with_value}
use Rattle.json_text.specs.Wholes.{array_of}
use Rattle.metric_make.specs.RoadMetric.{road_of}
use Rattle.road_places.specs.declared.walks.Route.{Route}
use Rattle.reply_texts.specs.Legs.{leg_value}
use Rattle.reply_texts.specs.RouteLegs.{ends_and_routes, leg_told}
use Rattle.step_texts.specs.Steps.{driving_side}
use Rattle.json_text.specs.Items.{all_written, may_come, may_end, one_more}
use Rattle.reply_texts.proofs.LegLemmas.{leg-at, legs-count, permitted-at, places-enough}
use Rattle.reply_texts.proofs.legs.push_legs.Goals as goal

pub push_leg-requires-clause-takes : goal.push_leg-requires-clause-takes
push_leg-requires-clause-takes c =
    may_come (λ pair. leg_value c.args.telling.now (driving_side c.args.network.now.profile) (leg_told (road_of c.args.network.now c.args.base.now) pair)) (ends_and_routes c.args.places.now c.args.routes.now) c.args.json.now c.loop-leg.leg c.loop-leg.json c.loop-leg.invariant

pub bounds-places-leg : goal.bounds-places-leg
bounds-places-leg c =
    let places = c.args.places.now in
    let routes = c.args.routes.now in
    let road = road_of c.args.network.now c.args.base.now in
    let along = c.requires.permitted in
    let k = c.loop-leg.leg in
    let inside : k < length routes = omega arith in
    let enough = places-enough road places routes along k inside in
    omega arith

pub bounds-places-leg-in-loop-leg : goal.bounds-places-leg-in-loop-leg
bounds-places-leg-in-loop-leg c =
    let places = c.args.places.now in
    let routes = c.args.routes.now in
    let road = road_of c.args.network.now c.args.base.now in
    let along = c.requires.permitted in
    let k = c.loop-leg.leg in
    let inside : k < length routes = omega arith in
    let enough = places-enough road places routes along k inside in
    enough

pub push_leg-requires-clause-from : goal.push_leg-requires-clause-from
push_leg-requires-clause-from c =
    let places = c.args.places.now in
    let routes = c.args.routes.now in
    let road = road_of c.args.network.now c.args.base.now in
    let along = c.requires.permitted in
    let k = c.loop-leg.leg in
    let inside : k < length routes = omega arith in
    let enough = places-enough road places routes along k inside in
    c.requires.placed k _ (slice_get-get_or places k (record { segment = 0; at = 0 }) (omega arith))

pub push_leg-requires-clause-to : goal.push_leg-requires-clause-to
push_leg-requires-clause-to c =
    let places = c.args.places.now in
    let routes = c.args.routes.now in
    let road = road_of c.args.network.now c.args.base.now in
    let along = c.requires.permitted in
    let k = c.loop-leg.leg in
    let inside : k < length routes = omega arith in
    let enough = places-enough road places routes along k inside in
    c.requires.placed (k + 1) _ (slice_get-get_or places (k + 1) (record { segment = 0; at = 0 }) (omega arith))

pub push_leg-requires-clause-permitted : goal.push_leg-requires-clause-permitted
push_leg-requires-clause-permitted c =
    let places = c.args.places.now in
    let routes = c.args.routes.now in
    let road = road_of c.args.network.now c.args.base.now in
    let along = c.requires.permitted in
    let k = c.loop-leg.leg in
    let nowhere : Place = record { segment = 0; at = 0 } in
    let from = get_or places k nowhere in
    let to = get_or places (k + 1) nowhere in
    let route = c.index-routes-leg.result in
    let inside : k < length routes = omega arith in
    let enough = places-enough road places routes along k inside in
    let first : slice_get places k ≡ Some from = slice_get-get_or places k nowhere (omega arith) in
    let second : slice_get places (k + 1) ≡ Some to = slice_get-get_or places (k + 1) nowhere (omega arith) in
    let third : slice_get routes k ≡ Some route = slice_get-get_or routes k route inside ∙ ap Some (sym c.index-routes-leg.is) in
    permitted-at road places routes along k from to route first second third

pub push_leg-requires-clause-small : goal.push_leg-requires-clause-small
push_leg-requires-clause-small c =
    let small = λ (route : Route). road_cost_ops.units route.cost (2 ^ 30) in
    let route = c.index-routes-leg.result in
    subst small (sym c.index-routes-leg.is) (All-get_or small c.args.routes.now c.loop-leg.leg route (omega arith) c.requires.small)

-- one more
pub loop-leg-preserved : goal.loop-leg-preserved
loop-leg-preserved c =
    let places = c.args.places.now in
    let routes = c.args.routes.now in
    let road = road_of c.args.network.now c.args.base.now in
    let along = c.requires.permitted in
    let k = c.loop-leg.leg in
    let nowhere : Place = record { segment = 0; at = 0 } in
    let from = get_or places k nowhere in
    let to = get_or places (k + 1) nowhere in
    let route = c.index-routes-leg.result in
    let inside : k < length routes = omega arith in
    let enough = places-enough road places routes along k inside in
    let first : slice_get places k ≡ Some from = slice_get-get_or places k nowhere (omega arith) in
    let second : slice_get places (k + 1) ≡ Some to = slice_get-get_or places (k + 1) nowhere (omega arith) in
    let third : slice_get routes k ≡ Some route = slice_get-get_or routes k route inside ∙ ap Some (sym c.index-routes-leg.is) in
    let told = λ (pair : (Place × Place) × Route). leg_value c.args.telling.now (driving_side c.args.network.now.profile) (leg_told road pair) in
    let leg = leg-at road places routes along k from to route first second third ((from, to), route) in
    one_more told (ends_and_routes places routes) c.args.json.now k ((from, to), route) c.loop-leg.json _ (omega (arith, legs-count road places routes along)) c.loop-leg.invariant
    (c.in_ok-push_leg.ensures ∙ ap (λ (pair : (Place × Place) × Route). with_value (told pair) c.loop-leg.json) (sym leg))

pub end_list-requires : goal.end_list-requires
end_list-requires c =
    may_end (λ pair. leg_value c.args.telling.now (driving_side c.args.network.now.profile) (leg_told (road_of c.args.network.now c.args.base.now) pair)) (ends_and_routes c.args.places.now c.args.routes.now) c.args.json.now c.loop-leg.leg c.loop-leg.json c.loop-leg.invariant

-- all of them
pub returns : goal.returns
returns c =
    let road = road_of c.args.network.now c.args.base.now in
    let pairs = ends_and_routes c.args.places.now c.args.routes.now in
    let count = legs-count road c.args.places.now c.args.routes.now c.requires.permitted in
    all_written (λ pair. leg_value c.args.telling.now (driving_side c.args.network.now.profile) (leg_told road pair)) pairs c.args.json.now c.loop-leg.leg c.loop-leg.json _ (omega (arith, count)) c.loop-leg.invariant c.in_ok-end_list.ensures.ok
    ∙ ap (λ (legs : List JsonValue). with_value (array_of legs) c.args.json.now) (sym (map-map (leg_value c.args.telling.now (driving_side c.args.network.now.profile)) (leg_told road) pairs))
