use Rattle.std.proofs.Common.{arith}
use Rattle.std.proofs.lemmas.Int.{clamps, ints}
use Rattle.line_simplify.proofs.extents.joined.Goals as goal

pub returns-clause-first : goal.returns-clause-first
returns-clause-first c = λ p h.
    let west = h.west in
    let east = h.east in
    let south = h.south in
    let north = h.north in
    let low = c.lower_corner.ensures in
    let high = c.upper_corner.ensures in
    record { west = omega (arith, ints, clamps, west, low.lon); east = omega (arith, ints, clamps, east, high.lon); south = omega (arith, ints, clamps, south, low.lat); north = omega (arith, ints, clamps, north, high.lat) }

pub returns-clause-second : goal.returns-clause-second
returns-clause-second c = λ p h.
    let west = h.west in
    let east = h.east in
    let south = h.south in
    let north = h.north in
    let low = c.lower_corner.ensures in
    let high = c.upper_corner.ensures in
    record { west = omega (arith, ints, clamps, west, low.lon); east = omega (arith, ints, clamps, east, high.lon); south = omega (arith, ints, clamps, south, low.lat); north = omega (arith, ints, clamps, north, high.lat) }
