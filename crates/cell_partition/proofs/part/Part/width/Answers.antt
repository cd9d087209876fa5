use Rattle.std.proofs.Common.{◌≡◌, ◌<◌, length, pos, negsuc, ◌-ℤ◌, ◌≤ℤ◌, arith}
use Rattle.std.proofs.lemmas.Int.{ints, to_z-of_z}
use Rattle.std.proofs.lemmas.List.Sorted.{length_permutation}
use Rattle.cell_partition.specs.Spots.{width}
use Rattle.cell_partition.proofs.Widths.{width_is}
use Rattle.cell_partition.proofs.part.Part.width.Goals as goal

pub bounds-spots-0 : goal.bounds-spots-0
bounds-spots-0 c = omega (arith, c.requires.some, length_permutation c.args.self.along.now c.in_order-spots.result.now c.in_order-spots.ensures.same)

pub overflow_sub-spots : goal.overflow_sub-spots
overflow_sub-spots c = omega (arith, c.requires.some, length_permutation c.args.self.along.now c.in_order-spots.result.now c.in_order-spots.ensures.same)

pub bounds-spots-spots : goal.bounds-spots-spots
bounds-spots-spots c = omega (arith, c.requires.some, length_permutation c.args.self.along.now c.in_order-spots.result.now c.in_order-spots.ensures.same)

pub returns : goal.returns
returns c =
    let some : 0 < length c.in_order-spots.result.now = omega (arith, c.requires.some, length_permutation c.args.self.along.now c.in_order-spots.result.now c.in_order-spots.ensures.same) in
    let high : c.along-first.result ≤ℤ pos 2147483647 = grind (arith, ints) in
    let low : negsuc 2147483647 ≤ℤ c.along-last.result = grind (arith, ints) in
    let wide : width c.args.axis c.args.self.along.now ≡ c.along-last.result -ℤ c.along-first.result =
    width_is c.args.axis c.args.self.along.now c.in_order-spots.result.now _ _ c.along-first.result c.along-last.result c.in_order-spots.ensures.same c.in_order-spots.ensures.in_order some c.along-first.ensures c.along-last.ensures high low in
    grind (arith, ints, to_z-of_z, wide)
