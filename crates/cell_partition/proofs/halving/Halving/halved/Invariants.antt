use Rattle.cell_partition.specs.Bounds.{parts_at}
use Rattle.cell_partition.proofs.halving.Halving.halved.Given as goal

-- the parts that lie at the bounds
abbrev pub ghost-halve_each : goal.ghost-halve_each
ghost-halve_each g a = parts_at a.parts.now.bounds.items a.parts.now.along.items
