-- Sets of names (this project's rule).
use Rattle.std.specs.Prelude.{◌≡◌, ℕ, ◌<◌, ◌↔◌, Bool, ◌&&◌, List, Option, Some}
use Rattle.std.specs.List.{Contains, list_all, position, slice_get}
use Rattle.road_base.specs.Words.{is_among}

-- each word of one list stands in the other
abbrev pub is_same_set : List (List ℕ) → List (List ℕ) → Bool
is_same_set a b = list_all (is_among b) a && list_all (is_among a) b

-- the number of the first of these sets that is the set of these names
abbrev pub set_among : List (List (List ℕ)) → List (List ℕ) → Option ℕ
set_among sets names = position (λ set. is_same_set set names) sets

-- two lists have the same words
abbrev pub HaveSameWords : List (List ℕ) → List (List ℕ) → Type 0
HaveSameWords a b = (word : List ℕ) → Contains a word ↔ Contains b word

-- set k has the words of these names, and no set before it
pub record IsFirstEqual (sets : List (List (List ℕ))) (names : List (List ℕ)) (k : ℕ) : Type 0 where
  pub equal : (set : List (List ℕ)) × (slice_get sets k ≡ Some set) × HaveSameWords set names
  pub first : (i : ℕ) (set : List (List ℕ)) → i < k → slice_get sets i ≡ Some set → ¬ HaveSameWords set names
