-- Each turn marks the cells of one level more.
use Rattle.std.proofs.Common.{◌∷◌, [], length-append, arith}
use Rattle.overlay_query.proofs.Marks.{AreMarksUpTo-push}
use Rattle.overlay_query.proofs.terminal_marks.TerminalMarks.of.Goals as goal

pub loop-below-preserved : goal.loop-below-preserved
loop-below-preserved c = rw c.in_ok-push.ensures.items (AreMarksUpTo-push c.args.frame.now.cells c.args.vertices.now c.loop-below.levels.items c.loop-below.below c.in_ok-marks.marks c.loop-below.invariant c.in_ok-marks.ensures (omega (arith, length-append c.loop-below.levels.items (c.in_ok-marks.marks ∷ []), c.loop-below.invariant.size)))
