-- All arcs out of the vertex are gone through.
use Rattle.std.proofs.Common.{◌++◌, List, append_assoc, arith, ◌∙◌, ap}
use Rattle.list_lemmas.proofs.Gets.{Contains_get}
use Rattle.cell_frame.specs.declared.crossings.Crossing.{Crossing}
use Rattle.cell_frame.proofs.Known.{AreAcrossOf-push, AreAllAcross-of}
use Rattle.cell_frame.proofs.crossings.push_crossings.Goals as goal

pub push_crossing-requires-clause-leaves : goal.push_crossing-requires-clause-leaves
push_crossing-requires-clause-leaves c = (c.out-arcs.ensures.leaves c.get.result).0 (Contains_get _ _ _ c.get.ensures)

pub loop-place-preserved : goal.loop-place-preserved
loop-place-preserved c =
    let before = c.loop-place.invariant in
    let here = c.in_ok-push_crossing.ensures in (
      before.0 ++ here.0,
      here.1 ∙ ap (λ (cs : List Crossing). cs ++ here.0) before.1 ∙ append_assoc c.args.crossings.now.items before.0 here.0,
      AreAcrossOf-push c.args.graph.now c.args.cells.now c.args.level c.args.v c.out-arcs.result c.loop-place.place c.get.result before.0 here.0 c.get.ensures before.2 here.2,
    )

pub returns : goal.returns
returns c =
    let all = c.loop-place.invariant in
    (all.0, all.1, AreAllAcross-of c.args.graph.now c.args.cells.now c.args.level c.args.v c.out-arcs.result c.loop-place.place all.0 (λ i h. (c.out-arcs.ensures.leaves i).1 h) (omega (arith, c.loop-place-test.false, c.len-place-end.ensures)) all.2)
