use Rattle.std.proofs.Common.{take}
use Rattle.overlay_query.specs.TerminalCells.{AreMarksAt}
use Rattle.overlay_query.proofs.terminal_marks.marks_at.Given as goal

-- the cells of the vertices so far are marked
abbrev pub invariant-loop-vertex : goal.invariant-loop-vertex
invariant-loop-vertex l = AreMarksAt l.frame.cells (take l.vertex-index l.vertices) l.level l.marks.items
