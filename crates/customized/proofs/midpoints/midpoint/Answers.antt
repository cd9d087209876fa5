use Rattle.std.proofs.Common.{◌≡◌, ◌+ℤ◌, arith, to_z, of_z, w32}
use Rattle.std.proofs.lemmas.Int.{ints}
use Rattle.customized.proofs.midpoints.midpoint.Goals as goal

-- both sums fit, as the coordinates are within their ranges
pub returns : goal.returns
returns c =
    let lon : to_z w32 (of_z w32 (to_z w32 (of_z w32 c.args.from.lon) +ℤ to_z w32 (of_z w32 c.args.to.lon))) ≡ c.args.from.lon +ℤ c.args.to.lon =
    omega (arith, ints, c.args.from.in_range.west, c.args.from.in_range.east, c.args.to.in_range.west, c.args.to.in_range.east) in
    let lat : to_z w32 (of_z w32 (to_z w32 (of_z w32 c.args.from.lat) +ℤ to_z w32 (of_z w32 c.args.to.lat))) ≡ c.args.from.lat +ℤ c.args.to.lat =
    omega (arith, ints, c.args.from.in_range.south, c.args.from.in_range.north, c.args.to.in_range.south, c.args.to.in_range.north) in
    λ i. (lon i, lat i)
