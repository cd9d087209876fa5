-- A turn has matched the rows for its nodes.
use Rattle.std.proofs.Common.{arith, rules, FitsSigned, w64}
use Rattle.std.specs.Prelude.{◌||◌}
use Rattle.std.proofs.lemmas.Int.{to_z-of_z}
use Rattle.list_lemmas.proofs.Gets.{get_some}
use Rattle.edge_graph.specs.NetworkView.{vertices_of}
use Rattle.road_segments.specs.Laws.{length-vertices}
use Rattle.metric_make.specs.LastRows.{AreTurnsTold, triple_eq}
use Rattle.metric_make.specs.TrafficRows.{is_turn_over}
use Rattle.metric_make.proofs.MatchLemmas.{field-at, matched-over}
use Rattle.metric_make.proofs.under_turns.row_for.Goals as goal

pub returns-clause-told : goal.returns-clause-told
returns-clause-told c before so_far =
    let vs = vertices_of c.args.network.now in
    let rows = c.args.rows.now in
    let d = get_some vs c.args.from (omega (arith, length-vertices c.args.network.now.segments, c.requires.from)) in
    let e = get_some vs c.args.to (omega (arith, length-vertices c.args.network.now.segments, c.requires.to)) in
    let tail = c.tail-tail.result in
    let via = c.head-via.result in
    let head = c.head.result in
    let tail_fits : FitsSigned w64 c.tail-tail.result = search rules in
    let via_fits : FitsSigned w64 c.head-via.result = search rules in
    let head_fits : FitsSigned w64 c.head.result = search rules in
    let told : AreTurnsTold c.args.rows.now (λ q. is_turn_over vs before q.0 q.1 q.2 || triple_eq (c.tail-tail.result, c.head-via.result, c.head.result) q) c.matching_turn.new.last =
    simp (to_z-of_z, tail_fits, via_fits, head_fits) at (c.matching_turn.ensures.told (λ q. is_turn_over vs before q.0 q.1 q.2) so_far) in
    matched-over vs before (c.args.from, c.args.to) d.0 e.0 d.1 e.1 c.args.rows.now tail via head c.matching_turn.new.last.entries c.matching_turn.new.last.unmatched
    (field-at (λ y. y.tail) vs c.args.from d.0 tail d.1 c.tail-tail.ensures) (field-at (λ y. y.head) vs c.args.from d.0 via d.1 c.head-via.ensures) (field-at (λ y. y.head) vs c.args.to e.0 head e.1 c.head.ensures) told

pub matching_turn-requires : goal.matching_turn-requires
matching_turn-requires c = ((λ q. is_turn_over (vertices_of c.args.network.now) c.requires.told.0 q.0 q.1 q.2), c.requires.told.1)
