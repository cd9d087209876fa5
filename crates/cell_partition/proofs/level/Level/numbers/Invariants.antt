use Rattle.cell_partition.specs.Bounds.{parts_at}
use Rattle.cell_partition.proofs.level.Level.numbers.Given as goal

-- the cells that lie at the bounds
abbrev pub ghost-numbers_of : goal.ghost-numbers_of
ghost-numbers_of a = parts_at a.bounds.now a.order.now
