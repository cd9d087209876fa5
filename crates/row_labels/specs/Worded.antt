-- Private to this crate: costs in words of 64 bits, most by their ranks, the others by their places.
use Rattle.std.specs.Prelude.{◌≡◌, ◌⊎◌, ℕ, ◌-◌, ◌+◌, ◌^◌, ◌<◌, ◌≤◌, List, Option, Some, map, length, nat_lt, if◌then◌else◌, All}
use Rattle.std.specs.List.{slice_get}

-- what a word stands for: below 2^63 the cost of that rank, from there on the cost at a place among the others; and no cost
-- where that is past their end
abbrev pub value_at : {C : Type 0} → (ℕ → C) → List C → ℕ → Option C
value_at unranked others word = if nat_lt word (2 ^ 63) then Some (unranked word) else slice_get others (word - 2 ^ 63)

-- what each word stands for
abbrev pub values_of : {C : Type 0} → (ℕ → C) → List C → List ℕ → List (Option C)
values_of unranked others words = map (value_at unranked others) words

-- the word of no cost, or a word that names a cost: it does so still when others grow
abbrev pub IsPlaced : {C : Type 0} → List C → ℕ → Type 0
IsPlaced others word = (word < 2 ^ 63 + length others) ⊎ (word ≡ 2 ^ 64 - 1)

-- a word below 2^63 is the rank of the cost that it stands for
abbrev pub IsRankOrPlace : {C : Type 0} → (C → Option ℕ) → (ℕ → C) → ℕ → Type 0
IsRankOrPlace ranked unranked word = word < 2 ^ 63 → ranked (unranked word) ≡ Some word

-- all that, and there are fewer others than places
pub record AreWorded {C : Type 0} (ranked : C → Option ℕ) (unranked : ℕ → C) (others : List C) (words : List ℕ) : Type 0 where
  pub few : length others < 2 ^ 63
  pub each : All (IsPlaced others) words
  pub ranks : All (IsRankOrPlace ranked unranked) words

-- the cost at place i has a rank, which is no more than n
abbrev pub IsWithinRank : {C : Type 0} → (C → Option ℕ) → List (Option C) → ℕ → ℕ → Type 0
IsWithinRank {C} ranked values i n = (d : C) × (t : ℕ) × (slice_get values i ≡ Some (Some d)) × (ranked d ≡ Some t) × (t ≤ n)
