use Rattle.std.proofs.Common.{rules, arith, w32}
use Rattle.std.specs.Int.RustNames.{FitsSigned}
use Rattle.std.proofs.lemmas.Int.{ints}
use Rattle.snap_index.proofs.extents.joined.Goals as goal

pub returns-clause-first : goal.returns-clause-first
returns-clause-first c = λ line h.
    let a : FitsSigned w32 c.args.one.west = search rules in
    let b : FitsSigned w32 c.args.one.east = search rules in
    let d : FitsSigned w32 c.args.one.south = search rules in
    let e : FitsSigned w32 c.args.one.north = search rules in
    record { from = record { west = omega (arith, ints, h.from.west); east = omega (arith, ints, h.from.east); south = omega (arith, ints, h.from.south); north = omega (arith, ints, h.from.north) }; to = record { west = omega (arith, ints, h.to.west); east = omega (arith, ints, h.to.east); south = omega (arith, ints, h.to.south); north = omega (arith, ints, h.to.north) } }

pub returns-clause-second : goal.returns-clause-second
returns-clause-second c = λ line h.
    let a : FitsSigned w32 c.args.other.west = search rules in
    let b : FitsSigned w32 c.args.other.east = search rules in
    let d : FitsSigned w32 c.args.other.south = search rules in
    let e : FitsSigned w32 c.args.other.north = search rules in
    record { from = record { west = omega (arith, ints, h.from.west); east = omega (arith, ints, h.from.east); south = omega (arith, ints, h.from.south); north = omega (arith, ints, h.from.north) }; to = record { west = omega (arith, ints, h.to.west); east = omega (arith, ints, h.to.east); south = omega (arith, ints, h.to.south); north = omega (arith, ints, h.to.north) } }
