-- The arcs by their heads: which lead to a vertex, and how many at most.
use Rattle.std.proofs.Common.{◌≡◌, ℕ, ◌<◌, ◌≤◌, Some, List, [], length, sym, ◌∙◌, arith}
use Rattle.std.specs.List.{slice_get}
use Rattle.std.proofs.lemmas.Option.{same_Some, slice_get_within, slice_get-get_or}
use Rattle.search_graph.specs.Digraph.{Digraph}
use Rattle.cell_frame.specs.declared.cells.Cell.{Cell}
use Rattle.cell_frame.specs.Borders.{Framed, IsFramed, IsCell, at_cell}
use Rattle.head_index.specs.ByHead.{AreByHead}
use Rattle.column_search.specs.Backward.{arcs_to}
use Rattle.column_search.proofs.Finding.{few_below}
use Rattle.column_search.proofs.Turning.{AreTo}

module _ (g : Digraph) (heads : List (List ℕ)) (by_head : AreByHead g heads) where
  pub list_there : (v : ℕ) → v < g.vertices → slice_get heads v ≡ Some (arcs_to heads v)
  list_there v lt = let n : length heads ≡ g.vertices = by_head.size in slice_get-get_or heads v [] (omega arith)

  -- the list of a vertex is the one that is read
  pub list_is : (v : ℕ) (list : List ℕ) → v < g.vertices → slice_get heads v ≡ Some list → list ≡ arcs_to heads v
  list_is v list lt e = same_Some list (arcs_to heads v) (sym e ∙ list_there v lt)

  pub AreTo-heads : AreTo g heads
  AreTo-heads v lt i = by_head.each v (arcs_to heads v) (list_there v lt) i

  -- no more arcs lead to a vertex than there are
  pub arcs_few : (v : ℕ) → v < g.vertices → length (arcs_to heads v) ≤ length g.arcs
  arcs_few v lt = few_below (arcs_to heads v) (by_head.ascends v (arcs_to heads v) (list_there v lt)) (length g.arcs) (λ i h. let a = (AreTo-heads v lt i).0 h in slice_get_within g.arcs i (a.0, v) a.1)

-- a cell has no more entries than there are vertices
pub entries_few : (f : Framed) → IsFramed f → (k : Cell) → IsCell f.cells k → length (at_cell f.entries k) ≤ f.graph.vertices
entries_few f framed k is_cell = few_below (at_cell f.entries k) (framed.entries_ascend k is_cell) f.graph.vertices
    (λ v h. let lt : v < f.cells.vertices = ((framed.entries k v is_cell).0 h).0.0 in let n : f.cells.vertices ≡ f.graph.vertices = framed.vertices in omega arith)

-- nor more exits
pub exits_few : (f : Framed) → IsFramed f → (k : Cell) → IsCell f.cells k → length (at_cell f.exits k) ≤ f.graph.vertices
exits_few f framed k is_cell = few_below (at_cell f.exits k) (framed.exits_ascend k is_cell) f.graph.vertices
    (λ v h. let lt : v < f.cells.vertices = ((framed.exits k v is_cell).0 h).0.0 in let n : f.cells.vertices ≡ f.graph.vertices = framed.vertices in omega arith)
