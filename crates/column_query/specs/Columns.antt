-- The columns of a target: one for each level, of the cell that holds it.
use Rattle.std.specs.Prelude.{◌≡◌, ℕ, ◌+◌, List, length, Option, Some}
use Rattle.std.specs.List.{slice_get}
use Rattle.search_graph.specs.Costs.{CostOps}
use Rattle.search_graph.specs.Digraph.{Weighting}
use Rattle.cell_frame.specs.Borders.{Framed, cell_of}
use Rattle.column_search.specs.Columns.{IsColumn}

-- for each level, from the lowest, the column of the cell of t
pub record AreColumns {C : Type 0} (ops : CostOps C) (f : Framed) (w : Weighting C) (t : ℕ) (columns : List (List (Option C))) : Type 0 where
  pub size : length columns ≡ length f.cells.levels
  pub each : (l : ℕ) (column : List (Option C)) → slice_get columns l ≡ Some column → IsColumn ops f w (cell_of f.cells (l + 1) t) t column
