use Rattle.std.proofs.Common.{length}
use Rattle.cell_partition.specs.Levels.{partition_of, AreAbove}
use Rattle.cell_partition.proofs.tables.Tables.above.Given as goal

-- the tables of the levels so far
abbrev pub invariant-loop-level : goal.invariant-loop-level
invariant-loop-level l = record {
  tables : AreAbove (partition_of (length l.lowest) l.levels) l.above.items l.level;
}
