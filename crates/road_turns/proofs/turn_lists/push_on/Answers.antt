use Rattle.std.proofs.Common.{◌≡◌, ◌-◌, drop, length, take, arith, ℕ, ℤ, List, ◌++◌, true, false, map, sym, ap, ◌∙◌, rules, w64, FitsSigned, to_z, of_z}
use Rattle.std.proofs.lemmas.Int.{to_z-of_z}
use Rattle.std.proofs.lemmas.Result.{on_ok_weaker}
use Rattle.road_turns.specs.Fans.{leavers}
use Rattle.road_turns.specs.Leaving.{leaving_at, open_exits}
use Rattle.road_turns.specs.RestrictionParts.{has_via}
use Rattle.road_turns.specs.TurnParts.{turns_on, turns_onto}
use Rattle.road_segments.specs.Vertex.{Vertex, vertices}
use Rattle.road_turns.specs.VertexLaws.{both-ways, field-at}
use Rattle.road_turns.proofs.FanLemmas.{between-ahead, flag-is, flag-within, node-within, ordered-ahead, other-within, turns_onto-fan, within-ahead}
use Rattle.road_turns.proofs.TurnLemmas.{turns_on-all, turns_on-open}
use Rattle.road_turns.proofs.turn_lists.push_on.Goals as goal

pub index-requires : goal.index-requires
index-requires c =
    let fans = c.args.exits.now.fans in
    omega (arith, other-within c.args.roads.now fans.leaving.items fans.begins.items fans.restricted.items fans.nodes.items c.requires.fans c.args.v c.requires.vertex c.other_way.result c.other_way.ensures, fans.nodes.ok.0)

pub index-requires-2 : goal.index-requires-2
index-requires-2 c =
    let fans = c.args.exits.now.fans in
    omega (arith, flag-within c.args.roads.now fans.leaving.items fans.begins.items fans.restricted.items fans.nodes.items c.requires.fans c.args.v c.requires.vertex c.other_way.result c.other_way.ensures c.index.result.now c.index.ensures, fans.restricted.ok.0)

pub returns-then-index-clause-turns : goal.returns-then-index-clause-turns
returns-then-index-clause-turns c =
    let vs = vertices c.args.roads.now in
    let v = c.args.v in
    let kept = c.args.restrictions.now.kept in
    let runs = c.args.exits.now.leaving.runs in
    let w = both-ways c.args.roads.now v c.requires.vertex in
    let head = field-at (λ z. z.head) vs v w.0 c.head.result w.2 c.head.ensures in
    let way = field-at (λ z. z.way) vs v w.0 c.way.result w.2 c.way.ensures in
    let fits : FitsSigned w64 c.head.result = search rules in
    let fans = c.args.exits.now.fans in
    let ruled : has_via kept w.0.head ≡ true = sym (flag-is c.args.roads.now fans.leaving.items fans.begins.items fans.restricted.items fans.nodes.items c.requires.fans c.args.v c.requires.vertex c.other_way.result c.other_way.ensures c.index.result.now c.index.ensures kept c.index-2.result.now c.requires.restricted c.index-2.ensures) ∙ c.if-index.true in
    let fits_way : FitsSigned w64 c.way.result = search rules in
    let its : turns_onto v (open_exits kept (to_z w64 (of_z w64 c.head.result)) (to_z w64 (of_z w64 c.way.result)) (leaving_at runs (to_z w64 (of_z w64 c.head.result)))) ≡ turns_onto v (open_exits kept w.0.head w.0.way (map {A = ℕ × Vertex} {B = ℕ × ℤ} (λ e. (e.0, e.1.way)) (leavers vs w.0.head 0))) =
    ap (λ (z : ℤ). turns_onto v (open_exits kept z (to_z w64 (of_z w64 c.way.result)) (leaving_at runs z))) (to_z-of_z w64 c.head.result fits)
    ∙ ap (λ (z : ℤ). turns_onto v (open_exits kept c.head.result z (leaving_at runs c.head.result))) (to_z-of_z w64 c.way.result fits_way)
    ∙ ap (λ (z : ℤ). turns_onto v (open_exits kept z c.way.result (leaving_at runs z))) (sym head)
    ∙ ap (λ (z : ℤ). turns_onto v (open_exits kept w.0.head z (leaving_at runs w.0.head))) (sym way)
    ∙ ap (λ (l : List (ℕ × ℤ)). turns_onto v (open_exits kept w.0.head w.0.way l)) (c.requires.leaving.exits w.0.head ruled) in
    on_ok_weaker c.push_open.result
    (λ h. h ∙ ap (λ (l : List (ℕ × ℕ)). c.args.turns.now.items ++ l) (its ∙ sym (turns_on-open vs v w.0 w.1 w.2 w.3 w.4 kept)))
    c.push_open.ensures.turns

pub index-requires-3 : goal.index-requires-3
index-requires-3 c =
    let fans = c.args.exits.now.fans in
    omega (arith, node-within c.args.roads.now fans.leaving.items fans.begins.items fans.restricted.items fans.nodes.items c.requires.fans c.args.v c.requires.vertex c.other_way.result c.other_way.ensures c.index.result.now c.index.ensures, fans.begins.ok.0)

pub index-requires-4 : goal.index-requires-4
index-requires-4 c =
    let fans = c.args.exits.now.fans in
    omega (arith, node-within c.args.roads.now fans.leaving.items fans.begins.items fans.restricted.items fans.nodes.items c.requires.fans c.args.v c.requires.vertex c.other_way.result c.other_way.ensures c.index.result.now c.index.ensures, fans.begins.ok.0)

pub push_part-requires-clause-ordered : goal.push_part-requires-clause-ordered
push_part-requires-clause-ordered c =
    let fans = c.args.exits.now.fans in
    ordered-ahead c.args.roads.now fans.leaving.items fans.begins.items fans.restricted.items fans.nodes.items c.requires.fans c.args.v c.requires.vertex c.other_way.result c.other_way.ensures c.index.result.now c.index.ensures c.index-3.result.now c.index-4.result.now c.index-3.ensures c.index-4.ensures

pub push_part-requires-clause-within : goal.push_part-requires-clause-within
push_part-requires-clause-within c =
    let fans = c.args.exits.now.fans in
    omega (arith, within-ahead c.args.roads.now fans.leaving.items fans.begins.items fans.restricted.items fans.nodes.items c.requires.fans c.args.v c.requires.vertex c.other_way.result c.other_way.ensures c.index.result.now c.index.ensures c.index-3.result.now c.index-4.result.now c.index-3.ensures c.index-4.ensures, ap length c.deref.ensures.value)

pub returns-clause-turns : goal.returns-clause-turns
returns-clause-turns c =
    let vs = vertices c.args.roads.now in
    let v = c.args.v in
    let kept = c.args.restrictions.now.kept in
    let fans = c.args.exits.now.fans in
    let w = both-ways c.args.roads.now v c.requires.vertex in
    let unruled : has_via kept w.0.head ≡ false = sym (flag-is c.args.roads.now fans.leaving.items fans.begins.items fans.restricted.items fans.nodes.items c.requires.fans c.args.v c.requires.vertex c.other_way.result c.other_way.ensures c.index.result.now c.index.ensures kept c.index-2.result.now c.requires.restricted c.index-2.ensures) ∙ c.if-index.false in
    let first = c.index-3.result.now in
    let end = c.index-4.result.now in
    let part : turns_onto v (take (end - first) (drop first c.deref.result.now)) ≡ turns_on vs kept v =
    ap (λ (l : List ℕ). turns_onto v (take (end - first) (drop first l))) c.deref.ensures.value
    ∙ ap (turns_onto v) (between-ahead c.args.roads.now fans.leaving.items fans.begins.items fans.restricted.items fans.nodes.items c.requires.fans c.args.v c.requires.vertex c.other_way.result c.other_way.ensures c.index.result.now c.index.ensures c.index-3.result.now c.index-4.result.now c.index-3.ensures c.index-4.ensures)
    ∙ turns_onto-fan vs v w.0 w.2
    ∙ sym (turns_on-all vs v w.0 w.1 w.2 w.3 w.4 kept unruled) in
    on_ok_weaker c.push_part.result (λ h. h ∙ ap (λ (l : List (ℕ × ℕ)). c.args.turns.now.items ++ l) part) c.push_part.ensures
