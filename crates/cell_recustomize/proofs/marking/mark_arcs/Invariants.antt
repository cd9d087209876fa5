use Rattle.std.proofs.Common.{take}
use Rattle.cell_recustomize.specs.Making.{AreMarked}
use Rattle.cell_recustomize.proofs.marking.mark_arcs.Given as goal

-- the cells of the arcs so far are marked
abbrev pub invariant-loop-i : goal.invariant-loop-i
invariant-loop-i l = AreMarked l.frame l.changes.vertices.now (take l.i-index l.changes.arcs.now) l.level l.marks
