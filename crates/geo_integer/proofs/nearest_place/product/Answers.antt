use Rattle.std.proofs.Common.{◌+ℤ◌, arith}
use Rattle.std.specs.Int.{w128, w64}
use Rattle.std.specs.Int.RustNames.{FitsSigned}
use Rattle.std.proofs.lemmas.Int.{ints, to_z-of_z}
use Rattle.geo_integer.proofs.nearest_place.product.Goals as goal

pub returns : goal.returns
returns c =
    let sum : FitsSigned w128 (c.product_of.result +ℤ c.product_of-2.result) = omega (arith, ints) in
    let east : FitsSigned w64 c.stride_between-to_b.result.east = omega (arith, ints) in
    let north : FitsSigned w64 c.stride_between-to_b.result.north = omega (arith, ints) in
    let p_east : FitsSigned w64 c.stride_between-to_p.result.east = omega (arith, ints) in
    let p_north : FitsSigned w64 c.stride_between-to_p.result.north = omega (arith, ints) in
    grind (arith, to_z-of_z)
