-- The least costs from the entries to the exits of each cell, in one list a level.
use Rattle.std.specs.Prelude.{◌≡◌, ℕ, ◌+◌, ◌*◌, ◌-◌, ◌≤◌, [], ◌∷◌, ◌++◌, List, length, MatchOption, Option, Some}
use Rattle.std.specs.List.{slice_get, slice_range}
use Rattle.search_graph.specs.Costs.{CostOps}
use Rattle.search_graph.specs.Digraph.{IsOpen, Weighting}
use Rattle.cell_frame.specs.declared.cells.Cell.{Cell}
use Rattle.cell_frame.specs.declared.crossings.Crossing.{Crossing}
use Rattle.cell_frame.specs.Borders.{Framed, Holds, IsCell, at_cell}
use Rattle.cell_frame.specs.Inside.{IsInsideValue}

-- the least costs inside cell k from u to each of its exits, in their order
pub record IsRow {C : Type 0} (ops : CostOps C) (f : Framed) (w : Weighting C) (k : Cell) (u : ℕ) (row : List (Option C)) : Type 0 where
  pub size : length row ≡ length (at_cell f.exits k)
  pub each : (j v : ℕ) (o : Option C) → slice_get (at_cell f.exits k) j ≡ Some v → slice_get row j ≡ Some o → IsInsideValue ops f.graph w (Holds f.cells k) u v o

-- The cliques of one level: that of cell n begins at place n of `first`, an entry's row behind another's.
pub record Rows (C : Type 0) : Type 0 where
  pub first : List ℕ
  pub values : List (Option C)

-- The cliques of each level, level 1 first, and what the arcs between cells cost with the vertices to which they lead, in the
-- order of the frame.
pub record CliqueLists (C : Type 0) : Type 0 where
  pub rows : List (Rows C)
  pub crossing : List (Option C)

-- one level more on top
abbrev pub with_level : {C : Type 0} → CliqueLists C → Rows C → CliqueLists C
with_level cliques level = record { rows = cliques.rows ++ level ∷ []; crossing = cliques.crossing }

-- row i of clique n, whose rows are as long as `width` says
pub record HasRow {C : Type 0} (rows : Rows C) (n i width : ℕ) (row : List (Option C)) : Type 0 where
  pub first : ℕ
  pub begins : slice_get rows.first n ≡ Some first
  pub within : first + i * width + width ≤ length rows.values
  pub row_is : row ≡ slice_range rows.values (first + i * width) (first + i * width + width)

-- the row of the entry at place i of cell k, level 1 first among the cliques
pub record HasCellRow {C : Type 0} (f : Framed) (cliques : CliqueLists C) (k : Cell) (i : ℕ) (row : List (Option C)) : Type 0 where
  pub rows : Rows C
  pub level : slice_get cliques.rows (k.level - 1) ≡ Some rows
  pub has : HasRow rows k.number i (length (at_cell f.exits k)) row

-- clique n, of as many rows as long as `width` says, one behind another
pub record HasClique {C : Type 0} (rows : Rows C) (n count width : ℕ) (values : List (Option C)) : Type 0 where
  pub first : ℕ
  pub begins : slice_get rows.first n ≡ Some first
  pub within : first + count * width ≤ length rows.values
  pub values_are : values ≡ slice_range rows.values first (first + count * width)

-- the rows of all entries of cell k
pub record HasCellClique {C : Type 0} (f : Framed) (cliques : CliqueLists C) (k : Cell) (values : List (Option C)) : Type 0 where
  pub rows : Rows C
  pub level : slice_get cliques.rows (k.level - 1) ≡ Some rows
  pub has : HasClique rows k.number (length (at_cell f.entries k)) (length (at_cell f.exits k)) values

-- up to level `top` each entry's row has the least costs inside its cell, under these weights
abbrev pub AreExactRows : {C : Type 0} → CostOps C → Framed → Weighting C → CliqueLists C → ℕ → Type 0
AreExactRows {C} ops f w cliques top = (k : Cell) (i u : ℕ) → IsCell f.cells k → k.level ≤ top → slice_get (at_cell f.entries k) i ≡ Some u →
    (row : List (Option C)) × HasCellRow f cliques k i row × IsRow ops f w k u row

-- what an arc costs with the vertex to which it leads, none exactly where that is closed
abbrev pub IsCrossingCost : {C : Type 0} → CostOps C → Weighting C → Crossing → Option C → Type 0
IsCrossingCost {C} ops w c o = MatchOption o ((x : C) → ¬ IsOpen w c.head x) (λ s. (a : C) × (x : C) × (slice_get w.arc c.arc ≡ Some a) × IsOpen w c.head x × (s ≡ ops.plus a x))

-- of the first m arcs between cells, what each costs
pub record AreCrossings {C : Type 0} (ops : CostOps C) (f : Framed) (w : Weighting C) (m : ℕ) (costs : List (Option C)) : Type 0 where
  pub size : length costs ≡ m
  pub each : (i : ℕ) (c : Crossing) (o : Option C) → slice_get f.crossings i ≡ Some c → slice_get costs i ≡ Some o → IsCrossingCost ops w c o

-- up to level `top` each entry's row has the least costs inside its cell, and each arc between cells its cost, under these
-- weights
pub record AreExact {C : Type 0} (ops : CostOps C) (f : Framed) (w : Weighting C) (cliques : CliqueLists C) (top : ℕ) : Type 0 where
  pub rows : AreExactRows ops f w cliques top
  pub crossing : AreCrossings ops f w (length f.crossings) cliques.crossing
