-- For the functions of this crate alone: a search from one vertex, by its labels and its queue.
use Rattle.std.specs.Prelude.{◌≡◌, ℕ, ◌⊎◌, List, length, Option, Some}
use Rattle.std.specs.List.{Contains, slice_get}
use Rattle.search_graph.specs.Costs.{CostOps, NoDearer}
use Rattle.step_search.specs.Spaces.{Space, HasHop, Path}

-- v has a label that costs no more than c
abbrev pub LabelWithin : {C : Type 0} → CostOps C → List (Option C) → ℕ → C → Type 0
LabelWithin {C} ops labels v c = (d : C) × (slice_get labels v ≡ Some (Some d)) × NoDearer ops d c

-- where there was a label within a cost there is one
abbrev pub LabelsFall : {C : Type 0} → CostOps C → List (Option C) → List (Option C) → Type 0
LabelsFall {C} ops old new = (v : ℕ) (c : C) → LabelWithin ops old v c → LabelWithin ops new v c

-- a path from where the search began leads to v, and costs d; it may be of no hop
abbrev pub IsReached : {C : Type 0} → CostOps C → Space C → ℕ → ℕ → C → Type 0
IsReached ops S start v d = S.May start × (vs : List ℕ) × Path ops S start ops.zero vs v d

-- each hop out of u, where c is paid, finds a label of its head that costs no more than what is paid there
abbrev pub IsExpanded : {C : Type 0} → CostOps C → Space C → List (Option C) → ℕ → C → Type 0
IsExpanded {C} ops S labels u c = (v : ℕ) (s : C) → HasHop S u v s → LabelWithin ops labels v (ops.plus c s)

-- no label is held back, or the one of v at c
abbrev pub Nothing : {C : Type 0} → ℕ → C → Type 0
Nothing u d = ⊥

abbrev pub Held : {C : Type 0} → ℕ → C → ℕ → C → Type 0
Held v c u d = (u ≡ v) × (d ≡ c)

-- Where the search began is labelled, each label is what a path costs, and each that isn't held back stands in the queue or is
-- expanded.
pub record IsFront {C : Type 0} (ops : CostOps C) (S : Space C) (start : ℕ) (labels : List (Option C)) (queue : List (C × ℕ)) (HeldBack : ℕ → C → Type 0) : Type 0 where
  pub size : length labels ≡ S.vertices
  pub begun : S.May start → LabelWithin ops labels start ops.zero
  pub reached : (v : ℕ) (d : C) → slice_get labels v ≡ Some (Some d) → IsReached ops S start v d
  pub goes_on : (v : ℕ) (d : C) → slice_get labels v ≡ Some (Some d) → Contains queue (d, v) ⊎ (HeldBack v d ⊎ IsExpanded ops S labels v d)

-- no hop leads out of u
abbrev pub IsEnd : {C : Type 0} → Space C → ℕ → Type 0
IsEnd {C} S u = (v : ℕ) (s : C) → ¬ HasHop S u v s

-- v was offered the label c: it has one within it, and a label that came is this one, and in the queue, unless nothing leads on
pub record Offers {C : Type 0} (ops : CostOps C) (S : Space C) (old new : List (Option C)) (before after : List (C × ℕ)) (v : ℕ) (c : C) : Type 0 where
  pub size : length new ≡ length old
  pub falls : LabelsFall ops old new
  pub found : LabelWithin ops new v c
  pub came : (u : ℕ) (d : C) → slice_get new u ≡ Some (Some d) → ((slice_get old u ≡ Some (Some d)) × (Contains before (d, u) → Contains after (d, u))) ⊎ ((u ≡ v) × (d ≡ c) × (Contains after (d, u) ⊎ IsEnd S u))
