-- What is answered: the column of a vertex.
use Rattle.std.specs.Prelude.{◌≡◌, ℕ, List, length, Option, Some}
use Rattle.std.specs.List.{slice_get}
use Rattle.search_graph.specs.Costs.{CostOps}
use Rattle.search_graph.specs.Digraph.{Weighting}
use Rattle.cell_frame.specs.declared.cells.Cell.{Cell}
use Rattle.cell_frame.specs.Borders.{Framed, Holds, at_cell}
use Rattle.cell_frame.specs.Inside.{IsInsideValue}

-- the least costs inside cell k from each of its entries, in their order, to t
pub record IsColumn {C : Type 0} (ops : CostOps C) (f : Framed) (w : Weighting C) (k : Cell) (t : ℕ) (column : List (Option C)) : Type 0 where
  pub size : length column ≡ length (at_cell f.entries k)
  pub each : (i u : ℕ) (o : Option C) → slice_get (at_cell f.entries k) i ≡ Some u → slice_get column i ≡ Some o → IsInsideValue ops f.graph w (Holds f.cells k) u t o
