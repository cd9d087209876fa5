use Rattle.std.proofs.Common.{[], take}
use Rattle.cell_recustomize.specs.Making.{AreMarked}
use Rattle.cell_recustomize.proofs.marking.mark_vertices.Given as goal

-- the cells of the vertices so far are marked
abbrev pub invariant-loop-v : goal.invariant-loop-v
invariant-loop-v l = AreMarked l.frame (take l.v-index l.vertices) [] l.level l.marks
