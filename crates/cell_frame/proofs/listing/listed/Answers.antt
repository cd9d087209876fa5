-- The index of the cells makes the lists.
use Rattle.std.proofs.Common.{[]}
use Rattle.cell_frame.proofs.CellLists.{AreListed-indexed, numbers_below, places_within}
use Rattle.cell_frame.proofs.listing.listed.Goals as goal

pub index_by-requires-clause-in_range : goal.index_by-requires-clause-in_range
index_by-requires-clause-in_range c = rw (c.as_slice.ensures.value, c.count.ensures) (numbers_below c.args.cells.now c.args.level c.args.vertices.now c.in_ok-numbers.numbers.items c.in_ok-numbers.ensures)

pub taken-requires : goal.taken-requires
taken-requires c =
    let x = rw (c.as_slice.ensures.value, c.count.ensures) at c.in_ok-index.ensures in
    rw c.as_slice-2.ensures.value (places_within c.args.cells.now c.args.level c.args.vertices.now _ _ _ [] c.requires.few c.in_ok-numbers.ensures x)

pub returns : goal.returns
returns c =
    let x = rw (c.as_slice.ensures.value, c.count.ensures) at c.in_ok-index.ensures in
    let t = rw c.as_slice-2.ensures.value at c.in_ok-vertex.ensures in
    rw c.of.ensures (AreListed-indexed c.args.cells.now c.args.level c.args.vertices.now _ _ _ _ c.requires.few c.in_ok-numbers.ensures x t)
