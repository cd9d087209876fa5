-- The inside of a cell can be gone over under numbers of one's own, and what a search finds there is the least cost inside.
use Rattle.std.proofs.Common.{◌≡◌, ◌≢◌, ℕ, ◌-◌, ◌<◌, ◌≤◌, inl, inr, cond, Option, Some, None, List, [], ◌∷◌, length, refl, sym, ◌∙◌, ap, subst, arith}
use Rattle.std.specs.List.{Contains, slice_get}
use Rattle.std.proofs.lemmas.Option.{same_Some, slice_get_within}
use Rattle.std.proofs.lemmas.Bool.Decides.{eqb_tells}
use Rattle.list_lemmas.proofs.Gets.{Contains_get}
use Rattle.search_graph.specs.Costs.{CostOps, CostLaws}
use Rattle.search_graph.specs.Digraph.{Weighting}
use Rattle.step_search.specs.Spaces.{IsSpace}
use Rattle.step_search.specs.Paths.{IsLeastPathCost}
use Rattle.cell_frame.specs.declared.cells.Cell.{Cell}
use Rattle.cell_frame.specs.Borders.{Framed, IsCell, Holds, at_cell, cell_of}
use Rattle.cell_frame.specs.Cliqued.{CliqueLists}
use Rattle.cell_frame.specs.Inside.{IsInsideValue}
use Rattle.cell_frame.specs.PartSpace.{row_heads}
use Rattle.cell_customize.specs.declared.local.Local.{Local}
use Rattle.cell_customize.specs.Inner.{inner_space, IsInner}
use Rattle.cell_customize.specs.Numbers.{AreBelow}
use Rattle.cell_customize.specs.Local.{IsSearched}
use Rattle.cell_customize.specs.Filled.{IsFilled, IsLeapt, IsWhole, small_space, leapt_space}
use Rattle.cell_customize.specs.Leaping.{IsJoinable, IsGoal}
use Rattle.cell_customize.specs.declared.leaps.Leaps.{Leaps}
use Rattle.cell_customize.specs.Renaming.{IsRenaming}
use Rattle.cell_customize.proofs.Locals.{IsRenaming-local}
use Rattle.cell_customize.proofs.Bundled.{IsLeaping-made}
use Rattle.cell_customize.proofs.Costing.{inside_value}
use Rattle.cell_customize.proofs.Joined.{IsJoinable-inner}
use Rattle.cell_customize.proofs.Leapt.{IsLeaping, IsSpace-leaps, cost_leapt}
use Rattle.cell_customize.proofs.Renumbered.{IsSpace-renamed, IsJoinable-renamed, cost_renamed, none_renamed}

module _ {C : Type 0} (ops : CostOps C) (f : Framed) (w : Weighting C) (cliques : CliqueLists C) (k : Cell) (inner : IsInner ops f w cliques k) where
  exits_below : (u : ℕ) → u < f.graph.vertices → AreBelow f.graph.vertices (row_heads f (λ v. k.level - 1) u)
  exits_below u lt j v e = elim (eqb_tells (k.level - 1) 0) [
    | inl p ↦
        let none : row_heads f (λ v. k.level - 1) u ≡ [] = ap (λ b. cond b [] (at_cell f.exits (cell_of f.cells (k.level - 1) u))) p.0 in
        let past : j < length {A = ℕ} [] = slice_get_within [] j v (subst (λ (xs : List ℕ). slice_get xs j ≡ Some v) none e) in
        absurd (omega (arith, past))
    | inr p ↦
        let some : row_heads f (λ v. k.level - 1) u ≡ at_cell f.exits (cell_of f.cells (k.level - 1) u) = ap (λ b. cond b [] (at_cell f.exits (cell_of f.cells (k.level - 1) u))) p.0 in
        let here : slice_get (at_cell f.exits (cell_of f.cells (k.level - 1) u)) j ≡ Some v = subst (λ (xs : List ℕ). slice_get xs j ≡ Some v) some e in
        let n : f.cells.vertices ≡ f.graph.vertices = inner.framed.vertices in
        let high : k.level ≤ length f.cells.levels = inner.is_cell.1 in
        let one : 1 ≤ k.level - 1 = omega (arith, p.1) in
        let most : k.level - 1 ≤ length f.cells.levels = omega (arith, high) in
        let within : u < f.cells.vertices = omega (arith, lt, n) in
        let is_cell : IsCell f.cells (cell_of f.cells (k.level - 1) u) = (one, most, (inner.framed.kept.level (k.level - 1) one most).placed u within) in
        let exit = (inner.framed.exits (cell_of f.cells (k.level - 1) u) v is_cell).0 (Contains_get _ j v here) in
        let below : v < f.cells.vertices = exit.0.0 in
        omega (arith, below, n)
  ]

  pub IsSearched-inner : IsSearched ops (inner_space ops f w k)
  IsSearched-inner = record { space = inner.lawful.space; heads = exits_below }

  pub entries_below : AreBelow f.graph.vertices (at_cell f.entries k)
  entries_below j v e =
      let entry = (inner.framed.entries k v inner.is_cell).0 (Contains_get (at_cell f.entries k) j v e) in
      let n : f.cells.vertices ≡ f.graph.vertices = inner.framed.vertices in
      let below : v < f.cells.vertices = entry.0.0 in
      omega (arith, below, n)

  -- it can be searched also under numbers of one's own
  pub IsSpace-numbered : (local : Local C) → IsWhole (inner_space ops f w k) local → ((a b v : ℕ) → slice_get local.numbers a ≡ Some v → slice_get local.numbers b ≡ Some v → a ≡ b) → IsSpace ops (small_space ops f w k local)
  IsSpace-numbered local whole distinct = IsSpace-renamed ops (inner_space ops f w k) (small_space ops f w k local) local.numbers (IsRenaming-local (inner_space ops f w k) local.numbers local.spans.items local.hops.items local.heads.items whole distinct) inner.lawful.space

  module _ (local : Local C) (filled : IsFilled ops f w k local) where
    pub renames : IsRenaming (inner_space ops f w k) (small_space ops f w k local) local.numbers
    renames = IsRenaming-local (inner_space ops f w k) local.numbers local.spans.items local.hops.items local.heads.items filled.whole filled.distinct

    pub IsSpace-small : IsSpace ops (small_space ops f w k local)
    IsSpace-small = IsSpace-numbered local filled.whole filled.distinct

module _ {C : Type 0} {ops : CostOps C} (laws : CostLaws ops) (f : Framed) (w : Weighting C) (cliques : CliqueLists C) (k : Cell) (inner : IsInner ops f w cliques k) (local : Local C) (filled : IsFilled ops f w k local) (leaps : Leaps C) (leapt : IsLeapt ops f w k local leaps) where
  joinable : IsJoinable ops (small_space ops f w k local)
  joinable = IsJoinable-renamed ops (inner_space ops f w k) (small_space ops f w k local) local.numbers (renames ops f w cliques k inner local filled) (IsJoinable-inner laws f w cliques k inner)

  leaping : IsLeaping ops (small_space ops f w k local) (leapt_space ops f w k local leaps) (IsGoal leaps.goals.items)
  leaping = IsLeaping-made ops (small_space ops f w k local) (IsGoal leaps.goals.items) leaps.bundles.items leaps.gathering.hops.items leapt.bundles

  -- the leaps can be searched
  pub IsSpace-leapt : IsSpace ops (leapt_space ops f w k local leaps)
  IsSpace-leapt = IsSpace-leaps laws (small_space ops f w k local) (IsSpace-small ops f w cliques k inner local filled) joinable (IsGoal leaps.goals.items) (leapt_space ops f w k local leaps) leaping (λ u m. slice_get_within local.numbers u m.0 m.1)

  -- what a search over the leaps finds is what one over all hops does
  pub found_leapt : (entry exit : ℕ) → Contains (at_cell f.exits k) exit → entry ≢ exit → (start until : ℕ) → slice_get local.numbers start ≡ Some entry → slice_get local.numbers until ≡ Some exit →
      (cost : Option C) → IsLeastPathCost ops (leapt_space ops f w k local leaps) (record { vertex = start; cost = ops.zero } ∷ []) until cost → IsLeastPathCost ops (small_space ops f w k local) (record { vertex = start; cost = ops.zero } ∷ []) until cost
  found_leapt entry exit is other start until named aim cost h =
      cost_leapt laws (small_space ops f w k local) (IsSpace-small ops f w cliques k inner local filled) joinable (IsGoal leaps.goals.items) (leapt_space ops f w k local leaps) leaping start until
      (slice_get_within local.numbers start entry named) (leapt.goals exit until is aim) (λ same. other (same_Some entry exit (sym named ∙ ap (slice_get local.numbers) same ∙ aim))) cost h

-- what the search finds under other numbers is the least cost inside the cell
pub found_inside : {C : Type 0} {ops : CostOps C} (laws : CostLaws ops) (f : Framed) (w : Weighting C) (cliques : CliqueLists C) (k : Cell) (inner : IsInner ops f w cliques k) (local : Local C) → IsFilled ops f w k local →
    (entry : ℕ) → Contains (at_cell f.entries k) entry → (exit : ℕ) → Contains (at_cell f.exits k) exit → entry ≢ exit → (start until : ℕ) → slice_get local.numbers start ≡ Some entry → slice_get local.numbers until ≡ Some exit →
    (cost : Option C) → IsLeastPathCost ops (small_space ops f w k local) (record { vertex = start; cost = ops.zero } ∷ []) until cost → IsInsideValue ops f.graph w (Holds f.cells k) entry exit cost
found_inside {C} {ops} laws f w cliques k inner local filled entry among exit is other start until named aim cost h =
    let renaming = renames ops f w cliques k inner local filled in
    inside_value laws f w cliques k inner entry among exit is other (record { vertex = entry; cost = ops.zero } ∷ []) refl cost
    (cost_renamed ops (inner_space ops f w k) (small_space ops f w k local) local.numbers renaming start entry named until exit aim cost h)

-- and where the exit has no number there is no walk
pub none_inside : {C : Type 0} {ops : CostOps C} (laws : CostLaws ops) (f : Framed) (w : Weighting C) (cliques : CliqueLists C) (k : Cell) (inner : IsInner ops f w cliques k) (local : Local C) → IsFilled ops f w k local →
    (entry : ℕ) → Contains (at_cell f.entries k) entry → (exit : ℕ) → Contains (at_cell f.exits k) exit → entry ≢ exit → (start : ℕ) → slice_get local.numbers start ≡ Some entry → ((b : ℕ) → ¬ (slice_get local.numbers b ≡ Some exit)) →
    IsInsideValue ops f.graph w (Holds f.cells k) entry exit None
none_inside {C} {ops} laws f w cliques k inner local filled entry among exit is other start named none =
    let renaming = renames ops f w cliques k inner local filled in
    inside_value laws f w cliques k inner entry among exit is other (record { vertex = entry; cost = ops.zero } ∷ []) refl None
    (none_renamed ops (inner_space ops f w k) (small_space ops f w k local) local.numbers renaming start entry named exit none)
