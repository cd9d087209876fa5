use Rattle.std.proofs.Common.{arith}
use Rattle.cell_partition.specs.Levels.{cells_of}
use Rattle.cell_partition.proofs.Bounds.{length-bounds}
use Rattle.cell_partition.proofs.level.Level.count.Goals as goal

pub overflow_cast-result : goal.overflow_cast-result
overflow_cast-result c =
    omega (arith, length-bounds (cells_of c.args.self.now) c.args.self.now.bounds.items c.requires.bounds, c.args.self.now.bounds.ok.0, c.requires.few, c.len.ensures)

pub returns : goal.returns
returns c =
    omega (arith, length-bounds (cells_of c.args.self.now) c.args.self.now.bounds.items c.requires.bounds, c.args.self.now.bounds.ok.0, c.len.ensures)
