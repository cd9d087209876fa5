-- Each turn marks the cell that holds both ends of one arc more, if there is one.
use Rattle.std.proofs.Common.{get_or, take}
use Rattle.std.proofs.lemmas.List.{take_more}
use Rattle.cell_recustomize.proofs.Marked.{AreMarked-arc, AreMarked-between}
use Rattle.cell_recustomize.proofs.marking.mark_arcs.Goals.{then-cell, else-cell}
use Rattle.cell_recustomize.proofs.marking.mark_arcs.Goals as goal

pub loop-i-preserved : goal.loop-i-preserved
loop-i-preserved c =
    let n = c.loop-i.i-index in
    let arcs = c.args.changes.arcs.now in
    let vertices = c.args.changes.vertices.now in
    let is = rw c.graph.ensures at c.arc-tail.ensures.is in
    let inside = rw c.graph.ensures at c.arc-tail.ensures.in_range in
    rw (take_more arcs n 0 c.loop-i-test.true)
    (elim c.if-cell.branch [
      | then-cell w ↦
          rw w.marks-is
          (AreMarked-arc c.args.frame.now c.args.level vertices (take n arcs) c.loop-i.marks c.loop-i.invariant c.known.ensures (get_or arcs n 0) c.arc-tail.result.0 c.arc-tail.result.1 c.cell-cell.result c.cell.result is c.cell-cell.ensures.named c.cell.ensures.named w.if-cell.true c.cell-cell.ensures.cell inside.0 inside.1)
      | else-cell w ↦
          rw w.marks-is
          (AreMarked-between c.args.frame.now c.args.level vertices (take n arcs) c.loop-i.marks c.loop-i.invariant (get_or arcs n 0) c.arc-tail.result.0 c.arc-tail.result.1 c.cell-cell.result c.cell.result is c.cell-cell.ensures.named c.cell.ensures.named w.if-cell.false)
    ])
