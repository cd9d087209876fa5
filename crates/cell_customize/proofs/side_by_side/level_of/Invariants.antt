use Rattle.std.proofs.Common.{length}
use Rattle.cell_partition.specs.Partition.{level_at}
use Rattle.cell_customize.specs.Levels.{AreMade, cut_at}
use Rattle.cell_customize.proofs.side_by_side.level_of.Given as goal

-- the pieces so far are put together
abbrev pub invariant-loop-piece : goal.invariant-loop-piece
invariant-loop-piece g l = AreMade g.C.Cost.ops l.frame l.weights l.level 0 (cut_at (length (level_at l.frame.cells l.level)) l.piece-index) l.all
