-- Private to this crate: what offers along a row leave of the list of values, where the row's begin at `first`.
use Rattle.std.specs.Prelude.{◌≡◌, ◌⊎◌, ℕ, ◌+◌, ◌-◌, ◌%◌, ◌<◌, ◌≤◌, ◌^◌, min, List, [], Option, Some, None, slice_index_or, set, ◌∷◌, ◌++◌}
use Rattle.std.specs.List.{Contains, slice_get}
use Rattle.search_graph.specs.Costs.{CostOps, NoDearer}
use Rattle.row_labels.specs.Rowed.{IsImproved}
use Rattle.row_labels.specs.Worded.{IsWithinRank}

-- the value at a place of the list
abbrev pub value_on : {C : Type 0} → List (Option C) → ℕ → Option C
value_on values i = slice_index_or values i None

-- where a word below `ranks` is, it is below `most`, and `rank` is that of what is paid and below 2^62
abbrev pub AreAdded : {C : Type 0} → (C → Option ℕ) → ℕ → C → ℕ → ℕ → Type 0
AreAdded ranked most paid rank ranks = (w : ℕ) → w < ranks → (w < most) × (ranked paid ≡ Some rank) × (rank < 2 ^ 62)

-- the words of a cost and of a value, and what is added, tell that the offer is no less than the value, or that there is no cost
abbrev pub IsToldOver : ℕ → ℕ → ℕ → ℕ → Type 0
IsToldOver word value rank ranks = ((word + 1) % 2 ^ 64 ≤ ranks) × (value ≤ min (rank + word) (2 ^ 64 - 1))

-- the rank of what is paid and that of the cost at a place are together no less than the rank of the value at place i
abbrev pub IsNoLess : {C : Type 0} → (C → Option ℕ) → List (Option C) → ℕ → C → List (Option C) → ℕ → Type 0
IsNoLess {C} ranked values i paid costs place = (s : C) × (r n : ℕ) × (slice_get costs place ≡ Some (Some s)) × (ranked paid ≡ Some r) × (ranked s ≡ Some n) × IsWithinRank ranked values i (r + n)

-- the place has no cost, or what is offered there is no less than the value at place i
abbrev pub IsOver : {C : Type 0} → (C → Option ℕ) → List (Option C) → ℕ → C → List (Option C) → ℕ → Type 0
IsOver ranked values i paid costs place = (slice_get costs place ≡ Some None) ⊎ IsNoLess ranked values i paid costs place

-- an offer at place i of the list: its value costs no more, or the offer becomes the value, and the place of the row is improved
pub data IsOffered {C : Type 0} (ops : CostOps C) (old new : List (Option C)) (i : ℕ) (offer : C) (place : ℕ) (before after : List ℕ) : Type 0 where
  left : (d : C) → new ≡ old → after ≡ before → value_on old i ≡ Some d → NoDearer ops d offer → IsOffered ops old new i offer place before after
  lowered : new ≡ set old i (Some offer) → after ≡ before ++ place ∷ [] → IsOffered ops old new i offer place before after

-- one place is gone along: it has no cost, or an offer
pub data LowersAt {C : Type 0} (ops : CostOps C) (first : ℕ) (old new : List (Option C)) (paid : C) (costs : List (Option C)) (place : ℕ) (before after : List ℕ) : Type 0 where
  closed : slice_get costs place ≡ Some None → new ≡ old → after ≡ before → LowersAt ops first old new paid costs place before after
  offered : (s : C) → slice_get costs place ≡ Some (Some s) → IsOffered ops old new (first + place) (ops.plus paid s) place before after → LowersAt ops first old new paid costs place before after

-- the first `count` places are gone along: a new value is an offer, and its place is improved; and an offered place is improved,
-- or its value costs no more than the offer
pub record Lowers {C : Type 0} (ops : CostOps C) (first : ℕ) (old new : List (Option C)) (paid : C) (costs : List (Option C)) (count : ℕ) (improved : List ℕ) : Type 0 where
  pub kept : (i : ℕ) (d : C) → value_on new i ≡ Some d → (value_on old i ≡ Some d) ⊎ ((j : ℕ) × (i ≡ first + j) × IsImproved ops paid costs improved j d)
  pub found : (j : ℕ) (s : C) → j < count → slice_get costs j ≡ Some (Some s) → Contains improved j ⊎ ((d : C) × (value_on new (first + j) ≡ Some d) × NoDearer ops d (ops.plus paid s))
  pub within : (j : ℕ) → Contains improved j → j < count
