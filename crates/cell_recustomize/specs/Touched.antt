-- Which cells a change of weights touches, which cliques serve where weights change, and how many entries touched cells have
-- (this project's rule).
use Rattle.std.specs.Prelude.{◌≡◌, ℕ, ◌↔◌, ◌⊎◌, List, length, Some, sum_by}
use Rattle.std.specs.List.{Contains, slice_get}
use Rattle.search_graph.specs.Costs.{CostOps}
use Rattle.search_graph.specs.Digraph.{Weighting, IsArc}
use Rattle.cell_frame.specs.declared.cells.Cell.{Cell}
use Rattle.cell_frame.specs.Borders.{Framed, Holds, IsCell, at_cell}
use Rattle.cell_frame.specs.Cliqued.{AreExact, CliqueLists}

-- two weightings give one cost to each vertex but these and to each arc but these
pub record DifferOnlyAt {C : Type 0} (before after : Weighting C) (vertices arcs : List ℕ) : Type 0 where
  pub vertex : (v : ℕ) → ¬ Contains vertices v → slice_get before.vertex v ≡ slice_get after.vertex v
  pub arc : (i : ℕ) → ¬ Contains arcs i → slice_get before.arc i ≡ slice_get after.arc i

-- the cliques of all levels are exact for weights that differ from w only there
abbrev pub WereExact : {C : Type 0} → CostOps C → Framed → Weighting C → CliqueLists C → List ℕ → List ℕ → Type 0
WereExact {C} ops f w cliques vertices arcs = (before : Weighting C) × DifferOnlyAt before w vertices arcs × AreExact ops f before cliques (length f.cells.levels)

-- cell k holds one of the vertices
abbrev pub HoldsVertex : Framed → List ℕ → Cell → Type 0
HoldsVertex f vertices k = (v : ℕ) × Contains vertices v × Holds f.cells k v

-- cell k holds both ends of one of the arcs
abbrev pub HoldsArc : Framed → List ℕ → Cell → Type 0
HoldsArc f arcs k = (i : ℕ) × (tail : ℕ) × (head : ℕ) × Contains arcs i × IsArc f.graph i tail head × Holds f.cells k tail × Holds f.cells k head

-- a change at these vertices and arcs touches cell k
abbrev pub IsTouched : Framed → List ℕ → List ℕ → Cell → Type 0
IsTouched f vertices arcs k = HoldsVertex f vertices k ⊎ HoldsArc f arcs k

-- the cells of which P holds, each once
pub record ListsEach (P : Cell → Type 0) (cells : List Cell) : Type 0 where
  pub each : (k : Cell) → Contains cells k ↔ P k
  pub once : (i j : ℕ) (k : Cell) → slice_get cells i ≡ Some k → slice_get cells j ≡ Some k → i ≡ j

-- the cells of which P holds have n entries in all
abbrev pub IsEntryCount : Framed → (Cell → Type 0) → ℕ → Type 0
IsEntryCount f P n = (cells : List Cell) × ListsEach P cells × (n ≡ sum_by (λ k. length (at_cell f.entries k)) cells)

-- the touched cells of all levels have n entries in all
abbrev pub IsTouchedCount : Framed → List ℕ → List ℕ → ℕ → Type 0
IsTouchedCount f vertices arcs n = IsEntryCount f (λ k. IsCell f.cells k × IsTouched f vertices arcs k) n
