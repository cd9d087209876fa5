use Rattle.std.proofs.Common.{length}
use Rattle.cell_partition.proofs.halving.Halving.+halve.Given as goal

abbrev pub decreases-halve : goal.decreases-halve
decreases-halve l = length l.part.along.now
