-- What isn't left at the lowest level is left at none.
use Rattle.cell_frame.proofs.Known.{IsInner-unleft, on_not}
use Rattle.cell_frame.proofs.spots.is_inner.Goals as goal

pub returns : goal.returns
returns c =
    let cut = c.args.cut.now in
    on_not c.is_left.result c.is_left.ensures (λ same. IsInner-unleft cut.graph.now cut.cells.now cut.entries.now c.args.v c.requires.cut (rw c.if-is_marked.false at c.requires.marked) (λ some. same))
