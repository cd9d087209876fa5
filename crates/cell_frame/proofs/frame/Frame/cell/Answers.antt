-- All vertices of a cell of the lowest level have the same cell above it.
use Rattle.std.proofs.Common.{◌≡◌, ◌<◌, ◌≤◌, length, refl, sym, arith}
use Rattle.cell_partition.specs.Partition.{level_at, number_of}
use Rattle.cell_frame.proofs.Levels.{IsCell-of}
use Rattle.cell_frame.proofs.frame.Frame.cell.Goals as goal

pub above-number-requires-clause-inside : goal.above-number-requires-clause-inside
above-number-requires-clause-inside c =
    let p = c.args.self.now.cells in
    let some : 1 ≤ length p.levels = omega (arith, c.requires.above, c.requires.below) in
    rw c.lowest.ensures ((c.known.ensures.kept.level 1 (omega arith) some).placed c.args.v (omega (arith, c.requires.vertex, c.known.ensures.vertices)))

pub returns-clause-named : goal.returns-clause-named
returns-clause-named c =
    let p = c.args.self.now.cells in
    let is : c.above-number.result ≡ number_of (level_at p c.args.level) c.args.v = c.above-number.ensures c.args.v c.requires.vertex (sym c.lowest.ensures) in
    rw is refl

pub returns-clause-cell : goal.returns-clause-cell
returns-clause-cell c =
    let p = c.args.self.now.cells in
    let is : c.above-number.result ≡ number_of (level_at p c.args.level) c.args.v = c.above-number.ensures c.args.v c.requires.vertex (sym c.lowest.ensures) in
    let inside : c.args.v < p.vertices = omega (arith, c.requires.vertex, c.known.ensures.vertices) in
    rw is (IsCell-of p c.known.ensures.kept c.args.v c.args.level inside c.requires.above c.requires.below)
