-- For the functions of this crate alone: the space of a search backwards inside a cell, from a vertex that it holds.
use Rattle.std.specs.Prelude.{◌≡◌, ℕ, suc, nat_eq, if◌then◌else◌, ◌+◌, ◌-◌, ◌^◌, ◌<◌, ◌≤◌, ◌⊎◌, List, [], ◌∷◌, length, Some, slice_index_or}
use Rattle.std.specs.List.{slice_get}
use Rattle.search_graph.specs.Costs.{CostOps}
use Rattle.search_graph.specs.Digraph.{Weighting, IsArc, IsOpen}
use Rattle.step_search.specs.Spaces.{Space}
use Rattle.cut_walks.specs.Cut.{Cut}
use Rattle.cell_frame.specs.declared.cells.Cell.{Cell}
use Rattle.cell_frame.specs.Borders.{Framed, Holds, IsExit, at_cell}
use Rattle.cell_frame.specs.Cliqued.{CliqueLists}
use Rattle.cell_frame.specs.Inside.{IsLeastInside}
use Rattle.cell_frame.specs.Parts.{whole_at, ShareCell, part_cut}
use Rattle.head_index.specs.ByHead.{AreByHead}
use Rattle.column_search.specs.Toward.{level_toward, IsToward}

-- the numbers of the arcs that lead to v
abbrev pub arcs_to : List (List ℕ) → ℕ → List ℕ
arcs_to heads v = slice_index_or heads v []

-- the part of v, where that is a cell
abbrev pub part_toward : Framed → Cell → ℕ → ℕ → Cell
part_toward f k t v = whole_at f.cells (level_toward f.cells k t) v

-- the first place at which v stands in a list, or the list's length where it doesn't
abbrev pub place_in : List ℕ → ℕ → ℕ
place_in [] v = 0
place_in (x ∷ xs) v = if nat_eq x v then 0 else suc (place_in xs v)

-- the name of the ways back out of v: the level of its part, and where that is a cell, the place of v among its exits
abbrev pub row_toward : Framed → Cell → ℕ → ℕ → ℕ × ℕ
row_toward f k t v = (level_toward f.cells k t v, if nat_eq (level_toward f.cells k t v) 0 then 0 else place_in (at_cell f.exits (part_toward f k t v)) v)

-- the moves in cell k, cut into these parts
abbrev pub toward_cut : {C : Type 0} → CostOps C → Framed → Weighting C → Cell → ℕ → Cut C
toward_cut ops f w k t = part_cut ops f.graph f.cells w (Holds f.cells k) (level_toward f.cells k t)

-- arc j leads to the open vertex v from u, which is in cell k and not in the part of v; arc and v cost s together
abbrev pub IsArcBack : {C : Type 0} → CostOps C → Framed → Weighting C → Cell → ℕ → ℕ → ℕ → ℕ → C → Type 0
IsArcBack {C} ops f w k t v j u s = (a : C) × (x : C) × IsArc f.graph j u v × (slice_get w.arc j ≡ Some a) × IsOpen w v x × (s ≡ ops.plus a x) × Holds f.cells k u × (¬ ShareCell f.cells (level_toward f.cells k t) v u)

-- u is the entry at place j of the part of v, v is an exit of it, and s is the least cost inside it from u to v
abbrev pub IsLeapBack : {C : Type 0} → CostOps C → Framed → Weighting C → Cell → ℕ → ℕ → ℕ → ℕ → C → Type 0
IsLeapBack {C} ops f w k t v j u s = (1 ≤ level_toward f.cells k t v) × IsExit f.graph f.cells (part_toward f k t v) v × (slice_get (at_cell f.entries (part_toward f k t v)) j ≡ Some u) × IsLeastInside ops f.graph w (Holds f.cells (part_toward f k t v)) u v s

-- place j has an entry of the part of v, of which v is an exit
abbrev pub IsLeapName : Framed → Cell → ℕ → ℕ → ℕ → Type 0
IsLeapName f k t v j = (1 ≤ level_toward f.cells k t v) × IsExit f.graph f.cells (part_toward f k t v) v × (j < length (at_cell f.entries (part_toward f k t v)))

-- A path begins at t. The names of the ways back out of v are the places of the arcs that lead to it, and behind them those of
-- the entries of its part, where it is an exit.
abbrev pub back_space : {C : Type 0} → CostOps C → Framed → Weighting C → Cell → ℕ → List (List ℕ) → Space C
back_space {C} ops f w k t heads = record {
  vertices = f.graph.vertices;
  May = λ v. v ≡ t;
  Name = λ v i. (i < length (arcs_to heads v)) ⊎ ((j : ℕ) × (i ≡ length (arcs_to heads v) + j) × IsLeapName f k t v j);
  Arc = λ v i u s. ((j : ℕ) × (slice_get (arcs_to heads v) i ≡ Some j) × IsArcBack ops f w k t v j u s) ⊎ ((j : ℕ) × (i ≡ length (arcs_to heads v) + j) × IsLeapBack ops f w k t v j u s);
  heads = λ v. [];
  Costs = λ v j s. ⊥;
  row = row_toward f k t;
}

-- what a search backwards stands on: that to t inside cell k, the arcs by their heads, and not too many of them
pub record IsBackward {C : Type 0} (ops : CostOps C) (f : Framed) (w : Weighting C) (cliques : CliqueLists C) (k : Cell) (t : ℕ) (heads : List (List ℕ)) : Type 0 where
  pub toward : IsToward ops f w cliques k t
  pub by_head : AreByHead f.graph heads
  pub few : length f.graph.arcs < 2 ^ 32 - 2 ^ 27
