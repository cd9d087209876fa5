-- What was found is the first of all, or nothing is there.
use Rattle.std.proofs.Common.{◌≡◌, ◌≤◌, eqb, [], length, map, refl, sym, subst, ap, ap₂, ◌∙◌, arith, List}
use Rattle.std.specs.List.{slice_get}
use Rattle.json_text.specs.Values.{compact_text}
use Rattle.geo_integer.specs.Position.{position_of}
use Rattle.road_base.specs.declared.segments.Place.{Place}
use Rattle.road_places.specs.Places.{IsPlaceOn}
use Rattle.edge_graph.specs.NetworkView.{NetworkView}
use Rattle.road_segments.specs.Segment.{Segment}
use Rattle.snap_index.specs.Firsts.{AreFirsts}
use Rattle.snap_index.specs.declared.snapping.Snapped.{Snapped}
use Rattle.url_read.specs.Request.{AreOwn}
use Rattle.url_read.specs.declared.requests.Service.{Service}
use Rattle.reply_texts.specs.Replies.{nearest_reply}
use Rattle.reply_core.specs.Asked.{asked_in}
use Rattle.reply_core.proofs.AnswerLemmas.{asked-count, few-segments, first-stray, firsts-on, found-none, found-placed, found-some, none-found, one-element, one-of, vertices-weighed}
use Rattle.reply_core.proofs.nearest_answers.nearest_answer.Goals as goal

pub nearest-requires-clause-weights : goal.nearest-requires-clause-weights
nearest-requires-clause-weights c = vertices-weighed c.args.under.now.road c.network.result.now c.base.result.now c.network.ensures c.base.ensures.value c.base.ensures.small.vertices

pub nearest_text-requires-clause-few : goal.nearest_text-requires-clause-few
nearest_text-requires-clause-few c = few-segments c.args.under.now.road c.network-2.result.now c.network-2.ensures c.base.ensures.small.few

pub returns-then-is_empty-clause-err : goal.returns-then-is_empty-clause-err
returns-then-is_empty-clause-err c =
    let road = c.args.under.now.road in
    let request = c.args.request.now in
    let own = c.args.own.now in
    let asked = c.asked_at.result in
    let found = c.in_ok-found.found.items in
    let size : c.in_ok-found.found.len ≡ length found = omega (arith, c.in_ok-found.found.ok.0) in
    let none : found ≡ [] = found-none found (sym (ap (λ n. eqb n 0) size) ∙ sym c.is_empty.ensures ∙ c.if-is_empty.true) in
    let some : 1 ≤ own.number = subst (λ (s : Service). AreOwn (length request.points) s) c.requires.service c.requires.fitting.own in
    let firsts = firsts-on road c.network.result.now c.base.result.now asked own.number found c.network.ensures c.base.ensures.value c.in_ok-found.ensures.firsts in
    (c.requires.recent, first-stray road (asked_in request) asked c.asked_at.ensures (none-found road asked own.number some (subst (λ (xs : List Snapped). AreFirsts road.network.segments road.weights asked.1 (position_of asked.0) own.number xs) none firsts)))

pub nearest_text-requires-clause-placed : goal.nearest_text-requires-clause-placed
nearest_text-requires-clause-placed c k place at =
    let found = c.in_ok-found.found.items in
    let places = c.deref-2.ensures.value ∙ c.in_ok-places.ensures ∙ ap (λ (xs : List Snapped). map (λ (one : Snapped). one.place) xs) c.deref.ensures.value in
    subst (λ (n : NetworkView). IsPlaceOn n place) (c.network.ensures ∙ sym c.network-2.ensures)
    (found-placed c.network.result.now found c.in_ok-found.ensures.placed k place (sym (ap (λ (xs : List Place). slice_get xs k) places) ∙ at))

pub returns-clause-says : goal.returns-clause-says
returns-clause-says c =
    let road = c.args.under.now.road in
    let request = c.args.request.now in
    let own = c.args.own.now in
    let asked = c.asked_at.result in
    let found = c.in_ok-found.found.items in
    let size : c.in_ok-found.found.len ≡ length found = omega (arith, c.in_ok-found.found.ok.0) in
    let count = asked-count request c.requires.fitting.radiuses c.requires.fitting.bearings ∙ one-of request own c.requires.service c.requires.fitting in
    record {
      recent = c.requires.recent;
      coordinate = asked.0;
      filter = asked.1;
      asked = one-element (asked_in request) asked count c.asked_at.ensures;
      found = found;
      first = firsts-on road c.network.result.now c.base.result.now asked own.number found c.network.ensures c.base.ensures.value c.in_ok-found.ensures.firsts;
      some = found-some found (sym (ap (λ n. eqb n 0) size) ∙ sym c.is_empty.ensures ∙ c.if-is_empty.false);
      places = c.of.ensures ∙ c.in_ok-places.ensures ∙ ap (λ (xs : List Snapped). map (λ (one : Snapped). one.place) xs) c.deref.ensures.value;
      walks = c.of-2.ensures ∙ c.new.ensures.items;
      tells = record {
        code = refl;
        status = refl;
        text = c.of-3.ensures
            ∙ c.in_ok-text.ensures
            ∙ ap₂ (λ (segments : List Segment) (places : List Place). compact_text (nearest_reply c.args.number segments asked.0 places)) (ap (λ (n : NetworkView). n.segments) c.network-2.ensures) (c.deref-2.ensures.value ∙ sym c.of.ensures);
      };
    }
