use Rattle.std.proofs.Common.{◌≡◌, ap, arith, length}
use Rattle.list_lemmas.proofs.Fronts.{all_zip-length}
use Rattle.road_base.specs.declared.segments.Place.{Place}
use Rattle.edge_graph.specs.NetworkView.{NetworkView, graph_of}
use Rattle.reply_core.specs.Asked.{asked_in}
use Rattle.reply_core.specs.Lacks.{StandsFor}
use Rattle.reply_core.proofs.AnswerLemmas.{asked-count, few-of, few-units, two-of}
use Rattle.reply_core.proofs.route_answers.route_answer.Goals as goal

-- there are as many places as coordinates
pub routes_of-requires-clause-some : goal.routes_of-requires-clause-some
routes_of-requires-clause-some g c =
    let request = c.args.request.now in
    let asked = asked-count request c.requires.fitting.radiuses c.requires.fitting.bearings in
    let as_many = all_zip-length (StandsFor c.args.under.now.road) (asked_in request) c.in_ok-places.places.items c.in_ok-places.ensures.snapped in
    let same = ap (length {A = Place}) c.deref.ensures.value in
    let some = two-of request c.args.own.now c.requires.service c.requires.fitting in
    omega (arith, asked, as_many, same, some)

pub routes_of-requires-clause-few : goal.routes_of-requires-clause-few
routes_of-requires-clause-few g c =
    let request = c.args.request.now in
    let asked = asked-count request c.requires.fitting.radiuses c.requires.fitting.bearings in
    let as_many = all_zip-length (StandsFor c.args.under.now.road) (asked_in request) c.in_ok-places.places.items c.in_ok-places.ensures.snapped in
    let same = ap (length {A = Place}) c.deref.ensures.value in
    let few = few-of request.service (length request.points) c.requires.fitting.most in
    omega (arith, asked, as_many, same, few)

pub told-requires-clause-as_many : goal.told-requires-clause-as_many
told-requires-clause-as_many g c =
    let request = c.args.request.now in
    let asked = asked-count request c.requires.fitting.radiuses c.requires.fitting.bearings in
    let as_many = all_zip-length (StandsFor c.args.under.now.road) (asked_in request) c.in_ok-places.places.items c.in_ok-places.ensures.snapped in
    omega (arith, asked, as_many)

-- and fewer routes
pub told-requires-clause-legs : goal.told-requires-clause-legs
told-requires-clause-legs g c =
    let request = c.args.request.now in
    let asked = asked-count request c.requires.fitting.radiuses c.requires.fitting.bearings in
    let as_many = all_zip-length (StandsFor c.args.under.now.road) (asked_in request) c.in_ok-places.places.items c.in_ok-places.ensures.snapped in
    let same = ap (length {A = Place}) c.deref.ensures.value in
    let one_each = c.in_ok-routes.ensures.one_each in
    let few = few-of request.service (length request.points) c.requires.fitting.most in
    omega (arith, asked, as_many, same, one_each, few)

-- none of them costs too much
pub told-requires-clause-small : goal.told-requires-clause-small
told-requires-clause-small g c =
    let network = c.args.under.now.road.network in
    let same : (graph_of c.network-network.result.now).vertices ≡ (graph_of network).vertices = ap (λ (n : NetworkView). (graph_of n).vertices) c.network-network.ensures in
    few-units network c.in_ok-routes.routes.items (omega (arith, c.graph-few.ensures.few, same)) c.in_ok-routes.ensures.bound
