-- The road is that of the metric.
use Rattle.std.proofs.Common.{refl, ap, arith, length, map, subst, sym, ◌∙◌, List}
use Rattle.std.specs.List.{slice_get}
use Rattle.road_base.specs.declared.segments.Place.{Place}
use Rattle.edge_graph.specs.NetworkView.{NetworkView}
use Rattle.json_text.specs.Values.{compact_text}
use Rattle.road_places.specs.Places.{IsPlaceOn}
use Rattle.road_places.specs.declared.walks.Route.{Route}
use Rattle.reply_texts.specs.RouteLegs.{AreSmall}
use Rattle.reply_core.proofs.AnswerLemmas.{permitted-on, told-in-steps}
use Rattle.reply_core.proofs.TripLemmas.{says-trip, trip-told}
use Rattle.reply_core.proofs.trip_answers.told.Goals as goal

-- at most nine legs
pub trip_text-requires-clause-legs : goal.trip_text-requires-clause-legs
trip_text-requires-clause-legs c =
    let one_each = c.requires.bounded.one_each in
    let few = c.requires.bounded.few in
    let same = ap (length {A = Route}) c.as_slice-routes.ensures.value in
    omega (arith, one_each, few, same)

pub trip_text-requires-clause-placed : goal.trip_text-requires-clause-placed
trip_text-requires-clause-placed c k place at =
    subst (λ (n : NetworkView). IsPlaceOn n place) (sym c.network-network.ensures)
    (c.requires.placed k place (sym (ap (λ (xs : List Place). slice_get xs k) c.deref.ensures.value) ∙ at))

pub trip_text-requires-clause-stops_placed : goal.trip_text-requires-clause-stops_placed
trip_text-requires-clause-stops_placed c k place at =
    subst (λ (n : NetworkView). IsPlaceOn n place) (sym c.network-network.ensures)
    (c.requires.bounded.placed k place (sym (ap (λ (xs : List Place). slice_get xs k) c.as_slice-stops.ensures.value) ∙ at))

pub trip_text-requires-clause-permitted : goal.trip_text-requires-clause-permitted
trip_text-requires-clause-permitted c =
    permitted-on c.args.under.now.road c.network-network.result.now c.base-base.result.now c.args.trip.stops.items c.as_slice-stops.result.now c.args.trip.routes.items c.as_slice-routes.result.now
    c.network-network.ensures c.base-base.ensures.value c.as_slice-stops.ensures.value c.as_slice-routes.ensures.value c.requires.trip.along

pub trip_text-requires-clause-small : goal.trip_text-requires-clause-small
trip_text-requires-clause-small c = subst AreSmall (sym c.as_slice-routes.ensures.value) c.requires.small

pub returns-clause-says : goal.returns-clause-says
returns-clause-says c =
    let road = c.args.under.now.road in
    let request = c.args.request.now in
    let own = c.args.own.now in
    let trip = c.args.trip in
    let told = trip-told c.args.number request.skip_waypoints own.telling request.points road c.network-network.result.now c.base-base.result.now c.args.places.items c.deref.result.now
    trip.stops.items c.as_slice-stops.result.now trip.best.order c.as_slice-order.result.now trip.routes.items c.as_slice-routes.result.now
    c.network-network.ensures c.base-base.ensures.value c.deref.ensures.value c.as_slice-stops.ensures.value c.as_slice-order.ensures c.as_slice-routes.ensures.value in
    let in_steps = told-in-steps road c.network-network.result.now trip.stops.items trip.stops.items trip.routes.items
    c.network-network.ensures refl c.graph-turns.ensures.sound.simple c.graph-turns.ensures.sound.in_range c.requires.bounded.placed c.requires.trip.along in
    says-trip road c.args.number request own _ c.args.places.items trip.stops.items trip.best trip.routes.items
    c.requires.recent c.requires.snapped c.requires.trip.best c.requires.trip.stops c.requires.trip.along c.requires.trip.least in_steps
    c.of.ensures (c.of-2.ensures ∙ c.in_ok-walks.ensures ∙ ap (λ (xs : List Route). map (λ (route : Route). route.walk) xs) c.into_routes.ensures)
    (record {
      code = refl;
      status = refl;
      text = c.of-3.ensures ∙ c.in_ok-text.ensures ∙ ap compact_text told;
    })
