-- A segment is found by the nodes of its vertices, of which the second goes the other way.
use Rattle.std.proofs.Common.{◌≡◌, ℕ, ℤ, ◌+◌, ◌*◌, ◌<◌, cond, Some, Option, length, arith, rules, refl, sym, subst, ap, ap₂, ◌∙◌, FitsSigned, w64}
use Rattle.std.specs.HashMap.{get}
use Rattle.std.specs.List.{slice_get}
use Rattle.std.proofs.lemmas.Int.{to_z-of_z}
use Rattle.list_lemmas.proofs.Gets.{get_some}
use Rattle.edge_graph.specs.NetworkView.{vertices_of}
use Rattle.road_segments.specs.Laws.{length-vertices, vertices-even, vertices-odd}
use Rattle.road_segments.specs.Vertex.{Vertex, against, along}
use Rattle.metric_make.specs.LastRows.{pair_eq}
use Rattle.metric_make.specs.RowsOfWays.{ArePaired, first_or, in_order}
use Rattle.metric_make.proofs.MatchLemmas.{field-at}
use Rattle.metric_make.proofs.WayLemmas.{paired-push}
use Rattle.metric_make.proofs.rows_of_ways.pair_up.Goals as goal

pub loop-s-preserved : goal.loop-s-preserved
loop-s-preserved c =
    let vs = vertices_of c.args.network.now in
    let s = c.loop-s.s in
    let segment = get_some c.args.network.now.segments s (omega (arith, c.segments-count.ensures.value, c.loop-s-test.true)) in
    let x = along segment.0 in
    let y = against segment.0 in
    let at_x : slice_get vs (2 * s) ≡ Some x = vertices-even c.args.network.now.segments s segment.0 (2 * s) segment.1 refl in
    let at_y : slice_get vs (2 * s + 1) ≡ Some y = vertices-odd c.args.network.now.segments s segment.0 (2 * s + 1) segment.1 refl in
    let tail_fits : FitsSigned w64 c.tail.result = search rules in
    let head_fits : FitsSigned w64 c.head.result = search rules in
    let from : x.tail ≡ c.tail.result = field-at (λ z. z.tail) vs (2 * s) x c.tail.result at_x c.tail.ensures in
    let to : x.head ≡ c.head.result = field-at (λ z. z.head) vs (2 * s) x c.head.result at_x c.head.ensures in
    let between : ◌≡◌ {A = ℤ × ℤ} (in_order (x.tail, x.head)) c.in_order-nodes.result =
    ap (λ (z : ℤ). in_order (z, x.head)) from ∙ ap (λ (z : ℤ). in_order (c.tail.result, z)) to ∙ sym (simp (to_z-of_z, tail_fits, head_fits) at c.in_order-nodes.ensures) in
    paired-push vs s x y at_x at_y refl refl (record { entries = c.loop-s.entries; firsts = c.loop-s.firsts }) c.loop-s.invariant c.in_order-nodes.result between
    (record { entries = c.first_of.new.entries; firsts = c.push.new.self }) c.in_ok-first_of.field-0 c.in_ok-first_of.ensures.first c.in_ok-push.ensures.items
    (λ q. c.in_ok-first_of.ensures.entries q ∙ ap (λ (f : ℕ). cond (pair_eq c.in_order-nodes.result q) (Some f) (get pair_eq c.loop-s.entries q)) (sym c.in_ok-first_of.ensures.first))

pub returns : goal.returns
returns c = subst (λ (n : ℕ). ArePaired (vertices_of c.args.network.now) n (record { entries = c.loop-s.entries; firsts = c.loop-s.firsts })) (omega (arith, c.segments-count.ensures.value, c.loop-s-test.false)) c.loop-s.invariant
