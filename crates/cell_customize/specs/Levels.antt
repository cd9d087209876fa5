-- The rows of a cell, one behind another, the cliques of the cells of a level, and the pieces that a level is cut into.
use Rattle.std.specs.Prelude.{◌≡◌, ℕ, ◌+◌, ◌*◌, ◌/◌, ◌<◌, ◌≤◌, List, ◌++◌, length, map, All, Option, Some}
use Rattle.std.specs.List.{slice_get, slice_range}
use Rattle.search_graph.specs.Costs.{CostOps}
use Rattle.search_graph.specs.Digraph.{Weighting}
use Rattle.cell_partition.specs.Partition.{level_at}
use Rattle.cell_frame.specs.declared.cells.Cell.{Cell}
use Rattle.cell_frame.specs.Borders.{Framed, IsCell, at_cell}
use Rattle.cell_frame.specs.Cliqued.{Rows, HasRow, IsRow}

-- the rows of the first m entries of a cell, one behind another
pub record AreRows {C : Type 0} (ops : CostOps C) (f : Framed) (w : Weighting C) (k : Cell) (values : List (Option C)) (m : ℕ) : Type 0 where
  pub size : length values ≡ m * length (at_cell f.exits k)
  pub each : (i u : ℕ) → i < m → slice_get (at_cell f.entries k) i ≡ Some u →
      IsRow ops f w k u (slice_range values (i * length (at_cell f.exits k)) (i * length (at_cell f.exits k) + length (at_cell f.exits k)))

-- the rows of all its entries
abbrev pub IsClique : {C : Type 0} → CostOps C → Framed → Weighting C → Cell → List (Option C) → Type 0
IsClique ops f w k values = AreRows ops f w k values (length (at_cell f.entries k))

-- row i of the n-th of these cliques is that of entry i of cell k
abbrev pub IsRowOf : {C : Type 0} → CostOps C → Framed → Weighting C → Cell → Rows C → ℕ → Type 0
IsRowOf {C} ops f w k rows n = (i u : ℕ) → slice_get (at_cell f.entries k) i ≡ Some u →
    (row : List (Option C)) × HasRow rows n i (length (at_cell f.exits k)) row × IsRow ops f w k u row

-- the cliques of the cells of a level from number `from` on and below `to`, one behind another
pub record AreMade {C : Type 0} (ops : CostOps C) (f : Framed) (w : Weighting C) (level from to : ℕ) (rows : Rows C) : Type 0 where
  pub size : from + length rows.first ≡ to
  pub within : All (λ first. first ≤ length rows.values) rows.first
  pub each : (n : ℕ) → n < length rows.first → IsRowOf ops f w (record { level = level; number = from + n }) rows n

-- these cliques, and others behind them
abbrev pub behind : {C : Type 0} → Rows C → Rows C → Rows C
behind rows more = record { first = rows.first ++ map (λ first. length rows.values + first) more.first; values = rows.values ++ more.values }

-- into how many pieces a level is cut
abbrev pub piece_count : ℕ
piece_count = 256

-- where piece p begins, of a level with so many cells
abbrev pub cut_at : ℕ → ℕ → ℕ
cut_at count p = p * count / piece_count

-- the cliques of the cells of piece p of a level
abbrev pub IsPiece : {C : Type 0} → CostOps C → Framed → Weighting C → ℕ → ℕ → Rows C → Type 0
IsPiece ops f w level p rows = AreMade ops f w level (cut_at (length (level_at f.cells level)) p) (cut_at (length (level_at f.cells level)) (p + 1)) rows

-- the pieces of a level, in their order
pub record ArePieces {C : Type 0} (ops : CostOps C) (f : Framed) (w : Weighting C) (level : ℕ) (made : List (Rows C)) : Type 0 where
  pub size : length made ≡ piece_count
  pub each : (p : ℕ) (rows : Rows C) → slice_get made p ≡ Some rows → IsPiece ops f w level p rows

-- each row of the level has the least costs inside its cell
abbrev pub IsExactLevel : {C : Type 0} → CostOps C → Framed → Weighting C → Rows C → ℕ → Type 0
IsExactLevel {C} ops f w rows level = (k : Cell) (i u : ℕ) → IsCell f.cells k → k.level ≡ level → slice_get (at_cell f.entries k) i ≡ Some u →
    (row : List (Option C)) × HasRow rows k.number i (length (at_cell f.exits k)) row × IsRow ops f w k u row
