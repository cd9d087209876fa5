-- The vertices that a search inside a cell comes to, under numbers of their own.
use Rattle.std.specs.Prelude.{◌≡◌, ℕ, Some, length}
use Rattle.std.specs.List.{Contains, slice_get}
use Rattle.search_graph.specs.Costs.{CostOps}
use Rattle.search_graph.specs.Digraph.{Weighting}
use Rattle.step_search.specs.Spaces.{Space}
use Rattle.cell_frame.specs.declared.cells.Cell.{Cell}
use Rattle.cell_frame.specs.Borders.{Framed, at_cell}
use Rattle.cell_customize.specs.Inner.{inner_space}
use Rattle.cell_customize.specs.Local.{IsLocal, local_space}
use Rattle.cell_customize.specs.Leaping.{AreBundles, IsGoal, leap_space}
use Rattle.cell_customize.specs.declared.leaps.Leaps.{Leaps}
use Rattle.cell_customize.specs.declared.local.Local.{Local}

-- a space as far as these vertices reach
abbrev pub space_of : {C : Type 0} → Space C → Local C → Space C
space_of S local = local_space S local.numbers local.spans.items local.hops.items local.heads.items

-- they reach as far as a search does
abbrev pub IsWhole : {C : Type 0} → Space C → Local C → Type 0
IsWhole S local = IsLocal S local.numbers local.spans.items local.hops.items local.heads.items (length local.numbers)

-- the inside of the cell, as far as these vertices reach
abbrev pub small_space : {C : Type 0} → CostOps C → Framed → Weighting C → Cell → Local C → Space C
small_space ops f w k local = space_of (inner_space ops f w k) local

-- all entries of the cell are among them, and all to which hops lead from them
pub record IsFilled {C : Type 0} (ops : CostOps C) (f : Framed) (w : Weighting C) (k : Cell) (local : Local C) : Type 0 where
  pub whole : IsWhole (inner_space ops f w k) local
  pub distinct : (a b v : ℕ) → slice_get local.numbers a ≡ Some v → slice_get local.numbers b ≡ Some v → a ≡ b
  pub named : (v : ℕ) → Contains (at_cell f.entries k) v → Contains local.numbers v

-- the leaps out of these vertices, with the exits of the cell as goals
pub record IsLeapt {C : Type 0} (ops : CostOps C) (f : Framed) (w : Weighting C) (k : Cell) (local : Local C) (leaps : Leaps C) : Type 0 where
  pub bundles : AreBundles ops (small_space ops f w k local) (IsGoal leaps.goals.items) leaps.bundles.items leaps.gathering.hops.items (length local.numbers)
  pub goals : (v b : ℕ) → Contains (at_cell f.exits k) v → slice_get local.numbers b ≡ Some v → IsGoal leaps.goals.items b

-- and the space of these leaps
abbrev pub leapt_space : {C : Type 0} → CostOps C → Framed → Weighting C → Cell → Local C → Leaps C → Space C
leapt_space ops f w k local leaps = leap_space (small_space ops f w k local) leaps.bundles.items leaps.gathering.hops.items
