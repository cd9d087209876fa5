-- Two ranks compare as the pairs that they stand for.
use Rattle.std.proofs.Common.{◌<◌, arith, rules}
use Rattle.std.specs.Int.{w32}
use Rattle.std.specs.Int.RustNames.{FitsSigned}
use Rattle.std.proofs.lemmas.Int.{to_z-of_z}
use Rattle.cell_partition.proofs.Ranks.{cmp-rank}
use Rattle.cell_partition.proofs.spot.Spot.compare.Goals as goal

pub returns : goal.returns
returns c =
    let one : FitsSigned w32 c.along.result = search rules in
    let two : FitsSigned w32 c.along-2.result = search rules in
    let low : c.args.self.now.vertex < 4294967296 = omega arith in
    let low_too : c.args.other.now.vertex < 4294967296 = omega arith in
    let first = simp to_z-of_z at c.rank-one.ensures in
    let second = simp to_z-of_z at c.rank-two.ensures in
    rw (c.cmp.ensures, first, second, ← c.along.ensures, ← c.along-2.ensures) (cmp-rank c.along.result c.along-2.result c.args.self.now.vertex c.args.other.now.vertex one two low low_too)
