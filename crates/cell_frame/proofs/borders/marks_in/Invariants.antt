-- The levels so far are marked.
use Rattle.cell_frame.specs.Marks.{AreUnlisted}
use Rattle.cell_frame.proofs.borders.marks_in.Given as goal

abbrev pub invariant-loop-level : goal.invariant-loop-level
invariant-loop-level l = AreUnlisted l.borders l.level l.marks.items
