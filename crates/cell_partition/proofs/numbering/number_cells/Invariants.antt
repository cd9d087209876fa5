use Rattle.std.proofs.Common.{◌≡◌, ℕ, ◌+◌, ◌≤◌, true, eqb, length, drop, get_or}
use Rattle.std.specs.List.{list_any}
use Rattle.cell_partition.specs.Bounds.{joined}
use Rattle.cell_partition.specs.Partition.{number_of}
use Rattle.cell_partition.proofs.numbering.number_cells.Given as goal

-- the vertices of the cells from this one on have their numbers
abbrev pub invariant-loop-cell : goal.invariant-loop-cell
invariant-loop-cell g l = record {
  within : l.cell ≤ length g.cells;
  numbers : (vertex : ℕ) → list_any (eqb vertex) (joined (drop l.cell g.cells)) ≡ true → get_or l.numbers vertex 0 ≡ l.cell + number_of (drop l.cell g.cells) vertex;
}

abbrev pub decreases-loop-cell : goal.decreases-loop-cell
decreases-loop-cell g l = l.cell
