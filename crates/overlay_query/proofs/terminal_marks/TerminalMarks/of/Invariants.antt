use Rattle.overlay_query.specs.TerminalCells.{AreMarksUpTo}
use Rattle.overlay_query.proofs.terminal_marks.TerminalMarks.of.Given as goal

-- the cells of the levels so far are marked
abbrev pub invariant-loop-below : goal.invariant-loop-below
invariant-loop-below l = AreMarksUpTo l.frame.cells l.vertices l.levels.items l.below
