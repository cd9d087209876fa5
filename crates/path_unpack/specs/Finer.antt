-- For the functions of this crate alone: hops in place of hops, level by level.
use Rattle.std.specs.Prelude.{◌≡◌, ℕ, ◌≤◌, List, [], ◌∷◌, length, Option, Some}
use Rattle.search_graph.specs.Costs.{CostOps}
use Rattle.search_graph.specs.Digraph.{Weighting}
use Rattle.search_graph.specs.Weighted.{AreSmall}
use Rattle.cell_frame.specs.declared.cells.Cell.{Cell}
use Rattle.cell_frame.specs.Borders.{Framed, IsFramed}
use Rattle.cell_frame.specs.Cliqued.{AreExact, CliqueLists}
use Rattle.overlay_query.specs.declared.packed.Hop.{Hop}
use Rattle.overlay_query.specs.Packed.{IsBy, PackedChain}

-- what unpacking stands on: a frame, small weights and their exact cliques
pub record IsOverlay {C : Type 0} (ops : CostOps C) (f : Framed) (w : Weighting C) (cliques : CliqueLists C) : Type 0 where
  pub framed : IsFramed f
  pub small : AreSmall ops f.graph w
  pub exact : AreExact ops f w cliques (length f.cells.levels)

-- the hops lead somewhere from u
abbrev pub LeadOn : {C : Type 0} → CostOps C → Framed → Weighting C → ℕ → List Hop → Type 0
LeadOn {C} ops f w u hops = (z : ℕ) × (d : C) × PackedChain ops f w u ops.zero hops z d

-- the finer hops lead from u where these do, at each cost that these do
abbrev pub StandFor : {C : Type 0} → CostOps C → Framed → Weighting C → ℕ → List Hop → List Hop → Type 0
StandFor {C} ops f w u hops finer = (c d : C) (z : ℕ) → ops.valid c → PackedChain ops f w u c hops z d → PackedChain ops f w u c finer z d

-- the run leads from u where the hop does, at each cost that it does
abbrev pub Opens : {C : Type 0} → CostOps C → Framed → Weighting C → ℕ → ℕ → Option Cell → List Hop → Type 0
Opens {C} ops f w u v by run = (s : C) → IsBy ops f w u v by s → PackedChain ops f w u ops.zero run v s

-- the cell, if any, is of this level or below
abbrev pub IsUpTo : ℕ → Option Cell → Type 0
IsUpTo level by = (k : Cell) → by ≡ Some k → k.level ≤ level

-- no hop is by a cell above this level
abbrev pub AreUpTo : ℕ → List Hop → Type 0
AreUpTo level [] = Unit {0}
AreUpTo level (h ∷ hs) = IsUpTo level h.by × AreUpTo level hs

-- where hops from u end
abbrev pub end_of : ℕ → List Hop → ℕ
end_of u [] = u
end_of u (h ∷ hs) = end_of h.to hs
