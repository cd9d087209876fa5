-- A vertex that is permitted has matched the rows for its nodes.
use Rattle.std.proofs.Common.{◌≡◌, true, [], List, length, take, arith, rules, sym, subst, ap, ◌∙◌, FitsSigned, of_z, to_z, w64}
use Rattle.std.specs.Prelude.{◌||◌}
use Rattle.std.proofs.lemmas.Bool.{eqb-true}
use Rattle.std.proofs.lemmas.Int.{to_z-of_z}
use Rattle.std.proofs.lemmas.List.{nil_from_length}
use Rattle.list_lemmas.proofs.Gets.{get_some}
use Rattle.edge_graph.specs.NetworkView.{vertices_of}
use Rattle.road_segments.specs.Laws.{length-vertices}
use Rattle.metric_make.specs.LastRows.{AreSpeedsTold, pair_eq}
use Rattle.metric_make.specs.RowsOfWays.{AreRowsTold}
use Rattle.metric_make.specs.TrafficRows.{is_way, speed_for}
use Rattle.metric_make.specs.declared.under_speeds.SpeedTable.{SpeedTable}
use Rattle.metric_make.proofs.MatchLemmas.{field-at, matched-permitted, way-permitted}
use Rattle.metric_make.proofs.WayLemmas.{rows-none}
use Rattle.traffic_files.specs.declared.rows.SpeedRow.{SpeedRow}
use Rattle.metric_make.proofs.under_speeds.row_for.Goals as goal

pub returns-then-is_empty-clause-row : goal.returns-then-is_empty-clause-row
returns-then-is_empty-clause-row c x at =
    let none : c.args.rows.now ≡ [] = nil_from_length c.args.rows.now (eqb-true (length c.args.rows.now) 0 (sym c.is_empty.ensures ∙ c.if-is_empty.true)) in
    sym (ap (λ (rows : List SpeedRow). speed_for rows x.tail x.head) none)

pub returns-then-is_empty-clause-told : goal.returns-then-is_empty-clause-told
returns-then-is_empty-clause-told c =
    let none : c.args.rows.now ≡ [] = nil_from_length c.args.rows.now (eqb-true (length c.args.rows.now) 0 (sym c.is_empty.ensures ∙ c.if-is_empty.true)) in
    rows-none (vertices_of c.args.network.now) c.args.v c.args.rows.now c.args.table.now none c.requires.told

pub returns-in-OfRows-clause-told : goal.returns-in-OfRows-clause-told
returns-in-OfRows-clause-told c =
    let vs = vertices_of c.args.network.now in
    let v = c.args.v in
    let x = get_some vs v (omega (arith, length-vertices c.args.network.now.segments, c.requires.vertex)) in
    let tail_fits : FitsSigned w64 c.tail-tail.result = search rules in
    let head_fits : FitsSigned w64 c.head-head.result = search rules in
    let so_far : AreSpeedsTold c.args.rows.now (λ q. is_way (take v vs) q.0 q.1) c.in-OfRows.last = subst (λ (t : SpeedTable). AreRowsTold vs c.args.rows.now v t) c.in-OfRows.is c.requires.told in
    let told : AreSpeedsTold c.args.rows.now (λ q. is_way (take v vs) q.0 q.1 || pair_eq (c.tail-tail.result, c.head-head.result) q) c.matching_speed.new.last =
    simp (to_z-of_z, tail_fits, head_fits) at (c.matching_speed.ensures.told (λ q. is_way (take v vs) q.0 q.1) so_far) in
    matched-permitted vs v x.0 x.1 c.args.rows.now c.tail-tail.result c.head-head.result c.matching_speed.new.last.entries c.matching_speed.new.last.unmatched
    (field-at (λ y. y.permitted) vs v x.0 true x.1 c.requires.permitted)
    (field-at (λ y. y.tail) vs v x.0 c.tail-tail.result x.1 c.tail-tail.ensures) (field-at (λ y. y.head) vs v x.0 c.head-head.result x.1 c.head-head.ensures) told

pub returns-in-OfWays-clause-told : goal.returns-in-OfWays-clause-told
returns-in-OfWays-clause-told c = subst (λ (t : SpeedTable). AreRowsTold (vertices_of c.args.network.now) c.args.rows.now c.args.v t) c.in-OfWays.is c.requires.told

pub matching_speed-requires : goal.matching_speed-requires
matching_speed-requires c =
    let vs = vertices_of c.args.network.now in
    let v = c.args.v in
    ((λ q. is_way (take v vs) q.0 q.1), subst (λ (t : SpeedTable). AreRowsTold vs c.args.rows.now v t) c.in-OfRows.is c.requires.told)

pub speed_of_way-requires : goal.speed_of_way-requires
speed_of_way-requires c =
    let vs = vertices_of c.args.network.now in
    let v = c.args.v in
    let x = get_some vs v (omega (arith, length-vertices c.args.network.now.segments, c.requires.vertex)) in
    let tail_fits : FitsSigned w64 c.tail-tail.result = search rules in
    let head_fits : FitsSigned w64 c.head-head.result = search rules in
    let from : x.0.tail ≡ to_z w64 (of_z w64 c.tail-tail.result) = simp (to_z-of_z, tail_fits) (field-at (λ y. y.tail) vs v x.0 c.tail-tail.result x.1 c.tail-tail.ensures) in
    let to : x.0.head ≡ to_z w64 (of_z w64 c.head-head.result) = simp (to_z-of_z, head_fits) (field-at (λ y. y.head) vs v x.0 c.head-head.result x.1 c.head-head.ensures) in
    (vs, x.0, x.1, field-at (λ y. y.permitted) vs v x.0 true x.1 c.requires.permitted, from, to, subst (λ (t : SpeedTable). AreRowsTold vs c.args.rows.now v t) c.in-OfWays.is c.requires.told)
