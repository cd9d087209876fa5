-- For the functions of this crate alone: the touched cells of one level, and what the cliques of a level are made from.
use Rattle.std.specs.Prelude.{◌≡◌, ℕ, ◌-◌, ◌<◌, ◌≤◌, Bool, true, false, List, length, Option, Some}
use Rattle.std.specs.List.{slice_get}
use Rattle.search_graph.specs.Costs.{CostOps}
use Rattle.search_graph.specs.Digraph.{Weighting}
use Rattle.search_graph.specs.Weighted.{AreSmall}
use Rattle.cell_partition.specs.Partition.{level_at}
use Rattle.cell_frame.specs.declared.cells.Cell.{Cell}
use Rattle.cell_frame.specs.Borders.{Framed, at_cell}
use Rattle.cell_frame.specs.Cliqued.{AreExact, CliqueLists, HasCellRow, IsRow}
use Rattle.cell_recustomize.specs.Touched.{IsTouched}

-- of the cells of a level those are marked that a change at these vertices and arcs touches
pub record AreMarked (f : Framed) (vertices arcs : List ℕ) (level : ℕ) (marks : List Bool) : Type 0 where
  pub size : length marks ≡ length (level_at f.cells level)
  pub marked : (n : ℕ) → slice_get marks n ≡ Some true → IsTouched f vertices arcs (record { level = level; number = n })
  pub found : (n : ℕ) → n < length (level_at f.cells level) → IsTouched f vertices arcs (record { level = level; number = n }) → slice_get marks n ≡ Some true

-- a marked cell of a level
abbrev pub IsMarked : ℕ → List Bool → Cell → Type 0
IsMarked level marks k = (k.level ≡ level) × (slice_get marks k.number ≡ Some true)

-- each of the rows of cell k has the least costs inside it
abbrev pub HasExactRows : {C : Type 0} → CostOps C → Framed → Weighting C → CliqueLists C → Cell → Type 0
HasExactRows {C} ops f w cliques k = (i u : ℕ) → slice_get (at_cell f.entries k) i ≡ Some u →
    (row : List (Option C)) × HasCellRow f cliques k i row × IsRow ops f w k u row

-- the cliques of a level can be made: by the levels below where cells are marked, and by the old rows of the others
pub record IsPrepared {C : Type 0} (ops : CostOps C) (f : Framed) (w : Weighting C) (old cliques : CliqueLists C) (marks : List Bool) (level : ℕ) : Type 0 where
  pub above : 1 ≤ level
  pub below : level ≤ length f.cells.levels
  pub small : AreSmall ops f.graph w
  pub exact : AreExact ops f w cliques (level - 1)
  pub size : length marks ≡ length (level_at f.cells level)
  pub kept : (n : ℕ) → slice_get marks n ≡ Some false → HasExactRows ops f w old (record { level = level; number = n })
