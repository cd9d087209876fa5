use Rattle.std.proofs.Common.{ℕ, ◌&&◌, filter, map, take, arith, rules, sym, ap, ◌∙◌, w64, FitsSigned}
use Rattle.std.specs.Ordering.{int_eq}
use Rattle.std.proofs.lemmas.Int.{to_z-of_z}
use Rattle.std.proofs.lemmas.List.{take_all}
use Rattle.std.proofs.lemmas.List.Elements.{All-filter, All-same, All-take}
use Rattle.list_lemmas.proofs.Gets.{get_some}
use Rattle.road_turns.specs.Departures.{vertices_from}
use Rattle.via_restrictions.specs.ViaParts.{comes_from}
use Rattle.via_restrictions.specs.ViaWays.{may_follow, those}
use Rattle.road_segments.specs.Laws.{length-vertices}
use Rattle.road_segments.specs.Vertex.{opposite, vertices}
use Rattle.road_turns.specs.VertexLaws.{field-at}
use Rattle.via_restrictions.proofs.ViaLemmas.{IsVertex, below-opposites, below-those, starts-from, starts_among}
use Rattle.via_restrictions.proofs.via_words.Vias.starts.Goals as goal

pub comes_from-requires-clause-vertex : goal.comes_from-requires-clause-vertex
comes_from-requires-clause-vertex c =
    let segments = c.args.self.now.turning.roads.now in
    let leaving = c.leaving-leaving.result.now in
    let fits : FitsSigned w64 c.tail-node.result = search rules in
    let its = simp to_z-of_z at c.leaving-leaving.ensures in
    All-same (IsVertex segments) leaving (vertices_from (vertices segments) c.tail-node.result) its (below-those segments (λ e. int_eq e.1.tail c.tail-node.result)) c.loop-e.e-index 0 c.loop-e-test.true

pub returns-clause-value : goal.returns-clause-value
returns-clause-value c = λ path is.
    let segments = c.args.self.now.turning.roads.now in
    let vs = vertices segments in
    let kept = c.args.self.now.turning.restrictions.now.kept in
    let first = c.args.first in
    let from = c.args.from in
    let leaving = c.leaving-leaving.result.now in
    let x = get_some vs first (omega (arith, length-vertices segments, c.requires.first)) in
    let fits : FitsSigned w64 c.tail-node.result = search rules in
    let its = simp to_z-of_z at c.leaving-leaving.ensures in
    let inv = simp (to_z-of_z, c.ranges.from) at c.loop-e.invariant in
    inv
    ∙ ap (starts_among vs kept from first) (take_all c.loop-e.e-index leaving (omega arith) ∙ its)
    ∙ starts-from segments kept from first c.tail-node.result x.0 x.1 (field-at (λ y. y.tail) vs first x.0 c.tail-node.result x.1 c.tail-node.ensures)
    ∙ ap (λ (k : ℕ). map opposite (those (λ e. int_eq e.1.way from && may_follow vs kept (opposite e.0) k) vs)) (sym is)

pub returns-clause-below : goal.returns-clause-below
returns-clause-below c =
    let segments = c.args.self.now.turning.roads.now in
    let vs = vertices segments in
    let kept = c.args.self.now.turning.restrictions.now.kept in
    let leaving = c.leaving-leaving.result.now in
    let fits : FitsSigned w64 c.tail-node.result = search rules in
    let its = simp to_z-of_z at c.leaving-leaving.ensures in
    let inv = simp (to_z-of_z, c.ranges.from) at c.loop-e.invariant in
    let front = take c.loop-e.e-index leaving in
    let test = comes_from vs kept c.args.from c.args.first in
    let all = All-same (IsVertex segments) leaving (vertices_from vs c.tail-node.result) its (below-those segments (λ e. int_eq e.1.tail c.tail-node.result)) in
    All-same (IsVertex segments) c.loop-e.starts.items (map opposite (filter test front)) inv
    (below-opposites segments (filter test front) (All-filter test (IsVertex segments) front (All-take (IsVertex segments) c.loop-e.e-index leaving all)))
