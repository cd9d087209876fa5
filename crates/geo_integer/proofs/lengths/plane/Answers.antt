use Rattle.std.proofs.Common.{arith}
use Rattle.std.proofs.lemmas.Int.{ints}
use Rattle.geo_integer.proofs.Halves.{squares-bound}
use Rattle.geo_integer.proofs.lengths.plane.Goals as goal

pub overflow_add-result : goal.overflow_add-result
overflow_add-result c =
    omega (arith, squares-bound c.from.result c.from-2.result c.from-north.result 360000000 4294967295 180000000 (omega (arith, ints)) (omega arith) (omega (arith, ints)))
