-- The chosen places are on the network, one for each chosen coordinate.
use Rattle.std.proofs.Common.{◌≡◌, arith, ap, length, sym, subst, ◌∙◌}
use Rattle.list_lemmas.proofs.Fronts.{all_zip-length}
use Rattle.road_base.specs.declared.coordinates.Point.{Point}
use Rattle.road_base.specs.declared.segments.Place.{Place}
use Rattle.road_places.specs.Places.{IsPlaceOn}
use Rattle.edge_graph.specs.NetworkView.{NetworkView}
use Rattle.reply_core.specs.Asked.{asked_in}
use Rattle.reply_core.specs.Lacks.{StandsFor}
use Rattle.reply_core.proofs.AnswerLemmas.{asked-count}
use Rattle.reply_core.proofs.ChosenLemmas.{chosen-placed, chosen-size}
use Rattle.reply_core.proofs.table_answers.table_answer.Goals as goal

pub ends_of-requires-clause-one_each : goal.ends_of-requires-clause-one_each
ends_of-requires-clause-one_each g c =
    let request = c.args.request.now in
    let asked = asked-count request c.requires.fitting.radiuses c.requires.fitting.bearings in
    let as_many = all_zip-length (StandsFor c.args.under.now.road) (asked_in request) c.in_ok-places.places.items c.in_ok-places.ensures.snapped in
    let same = ap (length {A = Place}) c.deref.ensures.value in
    omega (arith, asked, as_many, same)

pub ends_of-requires-2-clause-one_each : goal.ends_of-requires-2-clause-one_each
ends_of-requires-2-clause-one_each g c =
    let request = c.args.request.now in
    let asked = asked-count request c.requires.fitting.radiuses c.requires.fitting.bearings in
    let as_many = all_zip-length (StandsFor c.args.under.now.road) (asked_in request) c.in_ok-places.places.items c.in_ok-places.ensures.snapped in
    let same = ap (length {A = Place}) c.deref-2.ensures.value in
    omega (arith, asked, as_many, same)

pub cost_rows-requires-clause-sources : goal.cost_rows-requires-clause-sources
cost_rows-requires-clause-sources g c κs within =
    chosen-placed c.args.under.now.road.network c.args.own.now.sources c.in_ok-places.places.items c.deref.result.now c.deref-3.result.now c.in_ok-places.ensures.placed c.deref.ensures.value (c.deref-3.ensures.value ∙ c.in_ok-sources.ensures.places)

pub cost_rows-requires-clause-destinations : goal.cost_rows-requires-clause-destinations
cost_rows-requires-clause-destinations g c κs within =
    chosen-placed c.args.under.now.road.network c.args.own.now.destinations c.in_ok-places.places.items c.deref-2.result.now c.deref-4.result.now c.in_ok-places.ensures.placed c.deref-2.ensures.value (c.deref-4.ensures.value ∙ c.in_ok-destinations.ensures.places)

pub table_text-requires-clause-sources : goal.table_text-requires-clause-sources
table_text-requires-clause-sources g c =
    let request = c.args.request.now in
    let which = c.args.own.now.sources in
    let asked = asked-count request c.requires.fitting.radiuses c.requires.fitting.bearings in
    let as_many = all_zip-length (StandsFor c.args.under.now.road) (asked_in request) c.in_ok-places.places.items c.in_ok-places.ensures.snapped in
    let given = ap (length {A = Place}) c.deref.ensures.value in
    let equal : length c.deref.result.now ≡ length request.points = omega (arith, asked, as_many, given) in
    ap (length {A = Place}) (c.deref-6.ensures.value ∙ c.in_ok-sources.ensures.places)
    ∙ chosen-size which c.deref.result.now request.points equal
    ∙ sym (ap (length {A = Point}) (c.deref-5.ensures.value ∙ c.in_ok-sources.ensures.coordinates))

pub table_text-requires-clause-sources_placed : goal.table_text-requires-clause-sources_placed
table_text-requires-clause-sources_placed g c k place at =
    subst (λ (n : NetworkView). IsPlaceOn n place) (sym c.network-network.ensures)
    (chosen-placed c.args.under.now.road.network c.args.own.now.sources c.in_ok-places.places.items c.deref.result.now c.deref-6.result.now c.in_ok-places.ensures.placed c.deref.ensures.value (c.deref-6.ensures.value ∙ c.in_ok-sources.ensures.places) k place at)

pub table_text-requires-clause-destinations : goal.table_text-requires-clause-destinations
table_text-requires-clause-destinations g c =
    let request = c.args.request.now in
    let which = c.args.own.now.destinations in
    let asked = asked-count request c.requires.fitting.radiuses c.requires.fitting.bearings in
    let as_many = all_zip-length (StandsFor c.args.under.now.road) (asked_in request) c.in_ok-places.places.items c.in_ok-places.ensures.snapped in
    let given = ap (length {A = Place}) c.deref-2.ensures.value in
    let equal : length c.deref-2.result.now ≡ length request.points = omega (arith, asked, as_many, given) in
    ap (length {A = Place}) (c.deref-8.ensures.value ∙ c.in_ok-destinations.ensures.places)
    ∙ chosen-size which c.deref-2.result.now request.points equal
    ∙ sym (ap (length {A = Point}) (c.deref-7.ensures.value ∙ c.in_ok-destinations.ensures.coordinates))

pub table_text-requires-clause-destinations_placed : goal.table_text-requires-clause-destinations_placed
table_text-requires-clause-destinations_placed g c k place at =
    subst (λ (n : NetworkView). IsPlaceOn n place) (sym c.network-network.ensures)
    (chosen-placed c.args.under.now.road.network c.args.own.now.destinations c.in_ok-places.places.items c.deref-2.result.now c.deref-8.result.now c.in_ok-places.ensures.placed c.deref-2.ensures.value (c.deref-8.ensures.value ∙ c.in_ok-destinations.ensures.places) k place at)
