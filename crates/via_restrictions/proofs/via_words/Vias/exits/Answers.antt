use Rattle.std.proofs.Common.{ℕ, filter, take, arith, rules, sym, ap, ◌∙◌, w64, FitsSigned}
use Rattle.std.specs.Ordering.{int_eq}
use Rattle.std.proofs.lemmas.Int.{to_z-of_z}
use Rattle.std.proofs.lemmas.List.{take_all}
use Rattle.std.proofs.lemmas.List.Elements.{All-filter, All-same, All-take}
use Rattle.list_lemmas.proofs.Gets.{get_some}
use Rattle.road_turns.specs.Departures.{vertices_from}
use Rattle.via_restrictions.specs.ViaWays.{may_follow, those}
use Rattle.road_segments.specs.Laws.{length-vertices}
use Rattle.road_segments.specs.Vertex.{vertices}
use Rattle.road_turns.specs.VertexLaws.{field-at}
use Rattle.via_restrictions.proofs.ViaLemmas.{IsVertex, below-those, exits-from}
use Rattle.via_restrictions.proofs.via_words.Vias.exits.Goals as goal

pub may_follow-requires-clause-onto : goal.may_follow-requires-clause-onto
may_follow-requires-clause-onto c =
    let segments = c.args.self.now.turning.roads.now in
    let leaving = c.leaving-leaving.result.now in
    let fits : FitsSigned w64 c.head-node.result = search rules in
    let its = simp to_z-of_z at c.leaving-leaving.ensures in
    All-same (IsVertex segments) leaving (vertices_from (vertices segments) c.head-node.result) its (below-those segments (λ e. int_eq e.1.tail c.head-node.result)) c.loop-e.e-index 0 c.loop-e-test.true

pub returns-clause-value : goal.returns-clause-value
returns-clause-value c = λ path is.
    let segments = c.args.self.now.turning.roads.now in
    let vs = vertices segments in
    let kept = c.args.self.now.turning.restrictions.now.kept in
    let last = c.args.last in
    let leaving = c.leaving-leaving.result.now in
    let x = get_some vs last (omega (arith, length-vertices segments, c.requires.last)) in
    let fits : FitsSigned w64 c.head-node.result = search rules in
    let its = simp to_z-of_z at c.leaving-leaving.ensures in
    c.loop-e.invariant
    ∙ ap (filter (may_follow vs kept last)) (take_all c.loop-e.e-index leaving (omega arith) ∙ its)
    ∙ exits-from vs kept last c.head-node.result x.0 x.1 (field-at (λ y. y.head) vs last x.0 c.head-node.result x.1 c.head-node.ensures)
    ∙ ap (λ (k : ℕ). those (λ e. may_follow vs kept k e.0) vs) (sym is)

pub returns-clause-below : goal.returns-clause-below
returns-clause-below c =
    let segments = c.args.self.now.turning.roads.now in
    let kept = c.args.self.now.turning.restrictions.now.kept in
    let leaving = c.leaving-leaving.result.now in
    let fits : FitsSigned w64 c.head-node.result = search rules in
    let its = simp to_z-of_z at c.leaving-leaving.ensures in
    let front = take c.loop-e.e-index leaving in
    let all = All-same (IsVertex segments) leaving (vertices_from (vertices segments) c.head-node.result) its (below-those segments (λ e. int_eq e.1.tail c.head-node.result)) in
    All-same (IsVertex segments) c.loop-e.exits.items (filter (may_follow (vertices segments) kept c.args.last) front) c.loop-e.invariant
    (All-filter (may_follow (vertices segments) kept c.args.last) (IsVertex segments) front (All-take (IsVertex segments) c.loop-e.e-index leaving all))
