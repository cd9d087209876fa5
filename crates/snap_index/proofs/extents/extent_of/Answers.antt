use Rattle.std.proofs.Common.{rules, arith, w32}
use Rattle.std.specs.Int.RustNames.{FitsSigned}
use Rattle.std.proofs.lemmas.Int.{ints}
use Rattle.snap_index.proofs.extents.extent_of.Goals as goal

pub returns : goal.returns
returns c =
    let a : FitsSigned w32 c.args.line.from.lon = search rules in
    let b : FitsSigned w32 c.args.line.to.lon = search rules in
    let d : FitsSigned w32 c.args.line.from.lat = search rules in
    let e : FitsSigned w32 c.args.line.to.lat = search rules in
    record {
      from = record { west = omega (arith, ints); east = omega (arith, ints); south = omega (arith, ints); north = omega (arith, ints) };
      to = record { west = omega (arith, ints); east = omega (arith, ints); south = omega (arith, ints); north = omega (arith, ints) };
    }
