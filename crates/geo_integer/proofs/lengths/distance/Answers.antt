-- No root that a distance takes is long.
use Rattle.std.proofs.Common.{ℕ, ◌*◌, ◌<◌, arith}
use Rattle.geo_integer.specs.Root.{root_of}
use Rattle.geo_integer.proofs.RootLemmas.{root-below}
use Rattle.geo_integer.proofs.lengths.distance.Goals as goal

below : (n : ℕ) → n < 27000000000000 * 27000000000000 → root_of n < 27000000000000
below n h = root-below n 27000000000000 h

pub overflow_mul-result : goal.overflow_mul-result
overflow_mul-result c = omega (arith, below c.plane_distance.result (omega arith), c.square_root-root.ensures)

pub returns-clause-bound : goal.returns-clause-bound
returns-clause-bound c = omega (arith, below c.plane_distance.result (omega arith), c.square_root-root.ensures)
