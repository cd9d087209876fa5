use Rattle.std.proofs.Common.{◌≡◌, ℕ, ℤ, ◌+◌, ◌-◌, ◌*◌, ◌<◌, List, [], true, cond, drop, length, arith, rules, sym, ap, subst, ◌∙◌, w64, FitsSigned}
use Rattle.std.specs.HashSet.{contains}
use Rattle.std.specs.List.{list_any}
use Rattle.std.specs.Ordering.{int_eq}
use Rattle.std.proofs.Math.ListN.{drop_of_length-le}
use Rattle.std.proofs.lemmas.Int.{to_z-of_z}
use Rattle.list_lemmas.proofs.Gets.{get_some}
use Rattle.road_turns.specs.RestrictionParts.{pair_eq}
use Rattle.road_segments.specs.Vertex.{Vertex, vertices}
use Rattle.road_turns.specs.VertexLaws.{field-at}
use Rattle.road_turns.proofs.RuleLemmas.{HaveMet, begins, begins-vertices, met-add, met-skip}
use Rattle.road_segments.specs.Laws.{length-vertices}
use Rattle.road_turns.proofs.restrictions.ways_met.Goals as goal

pub loop-v-init : goal.loop-v-init
loop-v-init c = λ node way among.
    let vs = vertices c.args.roads.now in
    let none : drop (2 * c.len-v.result) vs ≡ [] = drop_of_length-le vs (omega (arith, length-vertices c.args.roads.now, c.len-v.ensures.value)) in
    ap (list_any (pair_eq (node, way))) c.new-met.ensures.empty ∙ ap (λ (xs : List Vertex). begins xs node way) (sym none)

pub loop-v-preserved-in_ok-insert : goal.loop-v-preserved-in_ok-insert
loop-v-preserved-in_ok-insert c =
    let vs = vertices c.args.roads.now in
    let v = c.loop-v.v - 1 in
    let within : v < length vs = omega (arith, length-vertices c.args.roads.now, c.len-v.ensures.value) in
    let up : c.loop-v.v ≡ v + 1 = omega arith in
    let x = get_some vs v within in
    let node = field-at (λ y. y.tail) vs v x.0 c.tail-node.result x.1 c.tail-node.ensures in
    let way = field-at (λ y. y.way) vs v x.0 c.way.result x.1 c.way.ensures in
    let fits_node : FitsSigned w64 c.tail-node.result = search rules in
    let fits_way : FitsSigned w64 c.way.result = search rules in
    let updates = simp to_z-of_z at c.in_ok-insert.ensures.updates in
    met-add vs v x.0 x.1 c.args.nodes.now c.loop-v.met c.insert.new.self
    (subst (λ (k : ℕ). HaveMet c.args.nodes.now (drop k vs) c.loop-v.met) up c.loop-v.invariant)
    (λ q. updates.0 q
    ∙ ap (λ (z : ℤ). cond (pair_eq (z, c.way.result) q) true (contains pair_eq c.loop-v.met q)) (sym node)
    ∙ ap (λ (z : ℤ). cond (pair_eq (x.0.tail, z) q) true (contains pair_eq c.loop-v.met q)) (sym way))

pub loop-v-preserved : goal.loop-v-preserved
loop-v-preserved c =
    let vs = vertices c.args.roads.now in
    let v = c.loop-v.v - 1 in
    let within : v < length vs = omega (arith, length-vertices c.args.roads.now, c.len-v.ensures.value) in
    let up : c.loop-v.v ≡ v + 1 = omega arith in
    let x = get_some vs v within in
    let node = field-at (λ y. y.tail) vs v x.0 c.tail-node.result x.1 c.tail-node.ensures in
    let fits_node : FitsSigned w64 c.tail-node.result = search rules in
    let says = simp to_z-of_z at c.contains.ensures in
    met-skip vs v x.0 x.1 c.args.nodes.now c.loop-v.met
    (subst (λ (k : ℕ). HaveMet c.args.nodes.now (drop k vs) c.loop-v.met) up c.loop-v.invariant)
    (ap (contains int_eq c.args.nodes.now) node ∙ sym says ∙ c.if-contains.false)

pub returns : goal.returns
returns c = λ node way among.
    let vs = vertices c.args.roads.now in
    let zero : c.loop-v.v ≡ 0 = omega arith in
    subst (λ (k : ℕ). HaveMet c.args.nodes.now (drop k vs) c.loop-v.met) zero c.loop-v.invariant node way among ∙ begins-vertices c.args.roads.now node way
