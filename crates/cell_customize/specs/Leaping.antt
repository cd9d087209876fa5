-- For the functions of this crate alone: a place of a row and an arc behind it as one hop, so that a search comes to no exit but
-- those that it looks for.
use Rattle.std.specs.Prelude.{◌≡◌, ℕ, ◌+◌, ◌<◌, ◌≤◌, ◌^◌, ◌⊎◌, List, [], length, Option, Some, true, Bool}
use Rattle.std.specs.List.{slice_get}
use Rattle.search_graph.specs.Costs.{CostOps, NoDearer}
use Rattle.step_search.specs.Spaces.{Space, Path, IsLeastCost}
use Rattle.step_search.specs.declared.hops.Hop.{Hop}
use Rattle.label_search.specs.Ranked.{AddsAtLeast}
use Rattle.label_search.specs.declared.arc_ranks.ArcRank.{ArcRank}
use Rattle.cell_customize.specs.declared.leaps.Bundle.{Bundle}

-- an arc from u to v, and a place of u's row that leads to v
abbrev pub ArcHop : {C : Type 0} → Space C → ℕ → ℕ → C → Type 0
ArcHop S u v s = (i : ℕ) × S.Arc u i v s

abbrev pub RowHop : {C : Type 0} → Space C → ℕ → ℕ → C → Type 0
RowHop S u v s = (j : ℕ) × (slice_get (S.heads u) j ≡ Some v) × S.Costs u j s

-- a place of u's row, and an arc behind it to v
abbrev pub Beyond : {C : Type 0} → CostOps C → Space C → ℕ → ℕ → C → Type 0
Beyond {C} ops S u v c = (x : ℕ) × (s : C) × (t : C) × RowHop S u x s × ArcHop S x v t × (c ≡ ops.plus s t)

-- a leap from u to v: an arc, a place of a row with an arc behind it, or a place of a row that leads to a goal
abbrev pub Leap : {C : Type 0} → CostOps C → Space C → (ℕ → Type 0) → ℕ → ℕ → C → Type 0
Leap ops S Goal u v c = ArcHop S u v c ⊎ (Beyond ops S u v c ⊎ (Goal v × RowHop S u v c))

-- behind a place that leads to x at this cost: an arc of x, or x itself if it is a goal
abbrev pub Placed : {C : Type 0} → CostOps C → Space C → (ℕ → Type 0) → ℕ → C → ℕ → C → Type 0
Placed {C} ops S Goal x s v c = ((t : C) × ArcHop S x v t × (c ≡ ops.plus s t)) ⊎ (Goal x × (v ≡ x) × (c ≡ s))

-- the same, where the place is open
abbrev pub IfPlaced : {C : Type 0} → CostOps C → Space C → (ℕ → Type 0) → ℕ → Option C → ℕ → C → Type 0
IfPlaced {C} ops S Goal x cost v c = (s : C) × (cost ≡ Some s) × Placed ops S Goal x s v c

-- What makes leaps lawful: two places of rows one behind another are matched by one; and sums fit, that of a place and an arc,
-- and that of a least path and an arc.
pub record IsJoinable {C : Type 0} (ops : CostOps C) (S : Space C) : Type 0 where
  pub triangle : (u x v : ℕ) (s t : C) → RowHop S u x s → RowHop S x v t → (r : C) × RowHop S u v r × NoDearer ops r (ops.plus s t)
  pub beyond_units : (u x v : ℕ) (s t : C) → RowHop S u x s → ArcHop S x v t → ops.units (ops.plus s t) (2 ^ 29)
  pub behind_units : (u x v : ℕ) (c t : C) (vs : List ℕ) → S.May u → Path ops S u ops.zero vs x c → IsLeastCost ops S u x c → ArcHop S x v t → ops.units (ops.plus c t) (2 ^ 28)

-- Of the hops from place `from` on each was there before or is one of those that are given, none of them became dearer, and to
-- where a given one leads one leads that is no dearer. Before that place nothing changed.
pub record Gathers {C : Type 0} (ops : CostOps C) (old new : List (Hop C)) (from : ℕ) (Given : ℕ → C → Type 0) : Type 0 where
  pub kept : (i : ℕ) (h : Hop C) → i < from → slice_get old i ≡ Some h → slice_get new i ≡ Some h
  pub longer : length old ≤ length new
  pub came : (i v : ℕ) (c : C) → from ≤ i → slice_get new i ≡ Some (record { head = v; cost = c }) → (slice_get old i ≡ Some (record { head = v; cost = c })) ⊎ Given v c
  pub stays : (i v : ℕ) (c : C) → from ≤ i → slice_get old i ≡ Some (record { head = v; cost = c }) → (d : C) × (slice_get new i ≡ Some (record { head = v; cost = d })) × NoDearer ops d c
  pub found : (v : ℕ) (c : C) → Given v c → (i : ℕ) × (from ≤ i) × (d : C) × (slice_get new i ≡ Some (record { head = v; cost = d })) × NoDearer ops d c

-- the leaps of u stand between the places of the bundle, of those between the same two only some that are no dearer than any
pub record IsBundle {C : Type 0} (ops : CostOps C) (S : Space C) (Goal : ℕ → Type 0) (u : ℕ) (hops : List (Hop C)) (bundle : Bundle) : Type 0 where
  pub rises : bundle.from ≤ bundle.end
  pub within : bundle.end ≤ length hops
  pub there : (i v : ℕ) (c : C) → bundle.from ≤ i → i < bundle.end → slice_get hops i ≡ Some (record { head = v; cost = c }) → Leap ops S Goal u v c
  pub back : (v : ℕ) (c : C) → Leap ops S Goal u v c → (i : ℕ) × (bundle.from ≤ i) × (i < bundle.end) × (d : C) × (slice_get hops i ≡ Some (record { head = v; cost = d })) × NoDearer ops d c

-- those of the first vertices
pub record AreBundles {C : Type 0} (ops : CostOps C) (S : Space C) (Goal : ℕ → Type 0) (bundles : List Bundle) (hops : List (Hop C)) (done : ℕ) : Type 0 where
  pub size : length bundles ≡ done
  pub each : (u : ℕ) (bundle : Bundle) → slice_get bundles u ≡ Some bundle → IsBundle ops S Goal u hops bundle

-- where a hop leads, and what its cost adds to a rank at least
pub record IsRankOf {C : Type 0} (ops : CostOps C) (ranked : C → Option ℕ) (hop : Hop C) (arc : ArcRank) : Type 0 where
  pub head : arc.head ≡ hop.head
  pub short : arc.rank + 1 < 2 ^ 63
  pub adds : AddsAtLeast ops ranked arc.rank hop.cost

-- those of all hops, by their places
pub record AreRanksOf {C : Type 0} (ops : CostOps C) (ranked : C → Option ℕ) (hops : List (Hop C)) (ranks : List ArcRank) : Type 0 where
  pub size : length ranks ≡ length hops
  pub each : (i : ℕ) (hop : Hop C) (arc : ArcRank) → slice_get hops i ≡ Some hop → slice_get ranks i ≡ Some arc → IsRankOf ops ranked hop arc

-- the number is marked as a goal
abbrev pub IsGoal : List Bool → ℕ → Type 0
IsGoal goals b = slice_get goals b ≡ Some true

-- hop i is in the bundle of u
abbrev pub IsLeapOf : List Bundle → ℕ → ℕ → Type 0
IsLeapOf bundles u i = (bundle : Bundle) × (slice_get bundles u ≡ Some bundle) × (bundle.from ≤ i) × (i < bundle.end)

-- the space of the leaps
abbrev pub leap_space : {C : Type 0} → Space C → List Bundle → List (Hop C) → Space C
leap_space {C} S bundles hops = record {
  vertices = S.vertices;
  May = S.May;
  Name = λ u i. IsLeapOf bundles u i;
  Arc = λ u i v c. IsLeapOf bundles u i × (slice_get hops i ≡ Some (record { head = v; cost = c }));
  heads = λ u. [];
  Costs = λ u j c. ⊥;
  row = λ u. (0, 0);
}
