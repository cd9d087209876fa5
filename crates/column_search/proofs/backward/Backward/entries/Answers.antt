-- Where the vertex has a place among the exits each entry has a name, and elsewhere none has.
use Rattle.std.proofs.Common.{◌≡◌, ◌≢◌, ◌<◌, ◌≤◌, length, ap, arith}
use Rattle.std.proofs.lemmas.Option.{slice_get_within}
use Rattle.cell_frame.specs.Borders.{at_cell}
use Rattle.column_search.specs.Toward.{level_toward}
use Rattle.column_search.specs.Backward.{place_in}
use Rattle.column_search.proofs.Counting.{entries_few}
use Rattle.column_search.proofs.Naming.{exit_named, names_exit, part_is}
use Rattle.column_search.proofs.backward.Backward.entries.Goals as goal

pub returns-then-exit_place-exits-clause-few : goal.returns-then-exit_place-exits-clause-few
returns-then-exit_place-exits-clause-few g c =
    let f = c.args.self.now.overlay.now.frame.now in
    let part = c.cell-part.result in
    let n : length c.entries.result.now ≡ length (at_cell f.entries part) = ap length c.entries.ensures in
    omega (arith, n, entries_few f c.requires.ready.toward.framed part c.cell-part.ensures.cell)

pub returns-then-exit_place-exits-clause-named : goal.returns-then-exit_place-exits-clause-named
returns-then-exit_place-exits-clause-named g c = λ j lt.
    let f = c.args.self.now.overlay.now.frame.now in
    let s = c.args.self.now.toward.now in
    let part = c.cell-part.result in
    let ne : c.level-level.result ≢ 0 = c.if-level-eq0.false in
    let some : 1 ≤ level_toward f.cells s.cell s.target c.args.v = omega (arith, ne, c.level-level.ensures) in
    let is = part_is f s.cell s.target c.args.v c.level-level.result part c.level-level.ensures c.cell-part.ensures.named in
    let m : length c.exits.result.now ≡ length (at_cell f.exits part) = ap length c.exits.ensures in
    let n : length c.entries.result.now ≡ length (at_cell f.entries part) = ap length c.entries.ensures in
    let there : place_in (at_cell f.exits part) c.args.v < length (at_cell f.exits part) = omega (arith, c.if-exit_place-exits.true, c.exit_place.ensures.place, m) in
    let below : j < length (at_cell f.entries part) = omega (arith, lt, n) in
    names_exit f s.cell s.target c.args.v c.requires.ready.toward.framed part is c.cell-part.ensures.cell j some there below

pub returns-else-exit_place-exits-clause-all : goal.returns-else-exit_place-exits-clause-all
returns-else-exit_place-exits-clause-all g c = λ j name.
    let f = c.args.self.now.overlay.now.frame.now in
    let s = c.args.self.now.toward.now in
    let part = c.cell-part.result in
    let is = part_is f s.cell s.target c.args.v c.level-level.result part c.level-level.ensures c.cell-part.ensures.named in
    let lt : place_in (at_cell f.exits part) c.args.v < length (at_cell f.exits part) = slice_get_within (at_cell f.exits part) (place_in (at_cell f.exits part) c.args.v) c.args.v (exit_named f s.cell s.target c.args.v c.requires.ready.toward.framed part is c.cell-part.ensures.cell j name) in
    let m : length c.exits.result.now ≡ length (at_cell f.exits part) = ap length c.exits.ensures in
    absurd (omega (arith, lt, c.if-exit_place-exits.false, c.exit_place.ensures.place, m))
