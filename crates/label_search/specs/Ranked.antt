-- Ranks of arcs and labels, by which a search sees that an offer improves nothing before it looks at costs.
use Rattle.std.specs.Prelude.{◌≡◌, ℕ, ◌+◌, ◌<◌, ◌≤◌, ◌^◌, List, [], ◌∷◌, length, Option, Some, None, nat_eq, nat_lt, if◌then◌else◌}
use Rattle.std.specs.List.{slice_get}
use Rattle.search_graph.specs.Costs.{CostOps, NoDearer}
use Rattle.step_search.specs.Spaces.{Space}
use Rattle.label_search.specs.declared.arc_ranks.ArcRank.{ArcRank}

-- behind a cost of rank r the cost s comes to no less than any whose rank is at most r + n
abbrev pub AddsAtLeast : {C : Type 0} → CostOps C → (C → Option ℕ) → ℕ → C → Type 0
AddsAtLeast {C} ops ranked n s = (a c : C) (r t : ℕ) → ops.valid a → ops.valid s → ranked a ≡ Some r → ranked c ≡ Some t → t ≤ r + n → NoDearer ops c (ops.plus a s)

-- by the numbers of the arcs of a space: where each leads, and what it adds at least
pub record AreArcRanks {C : Type 0} (ops : CostOps C) (ranked : C → Option ℕ) (S : Space C) (arcs : List ArcRank) : Type 0 where
  pub named : (u i : ℕ) → S.Name u i → (x : ArcRank) × (slice_get arcs i ≡ Some x) × (x.head < S.vertices) × (x.rank + 1 < 2 ^ 63)
  pub each : (u i v : ℕ) (s : C) (x : ArcRank) → S.Arc u i v s → slice_get arcs i ≡ Some x → (v ≡ x.head) × AddsAtLeast ops ranked x.rank s

-- What follows serves the functions of this crate alone.

-- the word of a label that has no rank, and that of no label
abbrev pub unranked_label : ℕ
unranked_label = 18446744073709551614

abbrev pub no_label : ℕ
no_label = 18446744073709551615

-- what a word says of a label: its rank, or that it stands beside the word, or that there is none
abbrev pub label_of : {C : Type 0} → (ℕ → C) → ℕ → C → Option C
label_of unranked word cost = if nat_lt word unranked_label then Some (unranked word) else if nat_eq word no_label then None else Some cost

-- what each word says, with the cost beside it
abbrev pub labels_of : {C : Type 0} → (ℕ → C) → List ℕ → List C → List (Option C)
labels_of unranked [] costs = []
labels_of unranked (word ∷ words) [] = None ∷ labels_of unranked words []
labels_of unranked (word ∷ words) (cost ∷ costs) = label_of unranked word cost ∷ labels_of unranked words costs

-- beside each word there is a cost, and each word that is less than those two is a rank
pub record AreRankedWords {C : Type 0} (ranked : C → Option ℕ) (unranked : ℕ → C) (words : List ℕ) (costs : List C) : Type 0 where
  pub room : length words ≤ length costs
  pub each : (v word : ℕ) → slice_get words v ≡ Some word → word < unranked_label → ranked (unranked word) ≡ Some word

-- the label of v has a rank, which is no more than n
abbrev pub IsWithinRank : {C : Type 0} → (C → Option ℕ) → List (Option C) → ℕ → ℕ → Type 0
IsWithinRank {C} ranked labels v n = (d : C) × (t : ℕ) × (slice_get labels v ≡ Some (Some d)) × (ranked d ≡ Some t) × (t ≤ n)

-- a rank and that of an arc are together no less than that of the label to which the arc leads
abbrev pub IsOverRank : {C : Type 0} → (C → Option ℕ) → List (Option C) → Option ℕ → ArcRank → Type 0
IsOverRank ranked labels rank arc = (r : ℕ) × (rank ≡ Some r) × IsWithinRank ranked labels arc.head (r + arc.rank)
