-- Each turn marks the cell of one vertex more.
use Rattle.std.proofs.Common.{[], get_or, take}
use Rattle.std.proofs.lemmas.List.{take_more}
use Rattle.cell_recustomize.proofs.Marked.{AreMarked-vertex}
use Rattle.cell_recustomize.proofs.marking.mark_vertices.Goals as goal

pub loop-v-preserved : goal.loop-v-preserved
loop-v-preserved c =
    let i = c.loop-v.v-index in
    let vs = c.args.vertices.now in
    rw (take_more vs i 0 c.loop-v-test.true)
    (AreMarked-vertex c.args.frame.now c.args.level (take i vs) [] c.loop-v.marks c.loop-v.invariant c.known.ensures (get_or vs i 0) c.cell-cell.result c.cell-cell.ensures.named c.cell-cell.ensures.cell (c.requires.vertices i 0 c.loop-v-test.true))
