-- There are as many places as coordinates, two to nine.
use Rattle.std.proofs.Common.{◌≡◌, Option, ap, arith, length, subst}
use Rattle.std.specs.Prelude.{IfSome}
use Rattle.list_lemmas.proofs.Fronts.{all_zip-length}
use Rattle.road_base.specs.declared.segments.Place.{Place}
use Rattle.reply_core.specs.Asked.{asked_in}
use Rattle.reply_core.specs.Lacks.{StandsFor}
use Rattle.edge_graph.specs.NetworkView.{NetworkView, graph_of}
use Rattle.road_trips.specs.Trips.{IsBounded}
use Rattle.road_trips.specs.declared.road_trips.RoadTrip.{RoadTrip}
use Rattle.reply_core.proofs.AnswerLemmas.{asked-count, few-units}
use Rattle.reply_core.proofs.TripLemmas.{trip-count}
use Rattle.reply_core.proofs.trip_answers.trip_answer.Goals as goal

pub best_trip-requires-clause-some : goal.best_trip-requires-clause-some
best_trip-requires-clause-some g c =
    let request = c.args.request.now in
    let asked = asked-count request c.requires.fitting.radiuses c.requires.fitting.bearings in
    let as_many = all_zip-length (StandsFor c.args.under.now.road) (asked_in request) c.in_ok-places.places.items c.in_ok-places.ensures.snapped in
    let same = ap (length {A = Place}) c.deref.ensures.value in
    let count = trip-count request c.args.own.now c.requires.service c.requires.fitting in
    let some = count.0 in
    omega (arith, asked, as_many, same, some)

pub best_trip-requires-clause-few : goal.best_trip-requires-clause-few
best_trip-requires-clause-few g c =
    let request = c.args.request.now in
    let asked = asked-count request c.requires.fitting.radiuses c.requires.fitting.bearings in
    let as_many = all_zip-length (StandsFor c.args.under.now.road) (asked_in request) c.in_ok-places.places.items c.in_ok-places.ensures.snapped in
    let same = ap (length {A = Place}) c.deref.ensures.value in
    let count = trip-count request c.args.own.now c.requires.service c.requires.fitting in
    let few = count.1 in
    omega (arith, asked, as_many, same, few)

pub told-requires-clause-as_many : goal.told-requires-clause-as_many
told-requires-clause-as_many g c =
    let request = c.args.request.now in
    let asked = asked-count request c.requires.fitting.radiuses c.requires.fitting.bearings in
    let as_many = all_zip-length (StandsFor c.args.under.now.road) (asked_in request) c.in_ok-places.places.items c.in_ok-places.ensures.snapped in
    omega (arith, asked, as_many)

-- none of its routes costs too much
pub told-requires-clause-small : goal.told-requires-clause-small
told-requires-clause-small g c =
    let network = c.args.under.now.road.network in
    let same : (graph_of c.network-network.result.now).vertices ≡ (graph_of network).vertices = ap (λ (n : NetworkView). (graph_of n).vertices) c.network-network.ensures in
    let bounded : IsBounded network c.deref.result.now c.in-Some.trip = subst (λ (o : Option RoadTrip). IfSome o (IsBounded network c.deref.result.now)) c.in-Some.is c.in_ok-found.ensures.bounded in
    few-units network c.in-Some.trip.routes.items (omega (arith, c.graph-few.ensures.few, same)) bounded.units
