use Rattle.std.proofs.Common.{arith}
use Rattle.geo_integer.proofs.Halves.{tilt-bound}
use Rattle.geo_integer.proofs.bearings.tilt.Goals as goal

pub overflow_cast-result : goal.overflow_cast-result
overflow_cast-result c = omega (arith, tilt-bound c.from-minor.result c.from-major.result (omega arith))

pub returns-clause-bound : goal.returns-clause-bound
returns-clause-bound c = tilt-bound c.from-minor.result c.from-major.result (omega arith)
