-- For the functions of this crate alone: the words of a tree.
use Rattle.std.specs.Prelude.{◌≡◌, ◌≢◌, ℕ, ◌+◌, ◌<◌, ◌≤◌, ◌⊎◌, List, get_or, length}

-- n is the lesser of a and b
abbrev pub IsLesser : ℕ → ℕ → ℕ → Type 0
IsLesser n a b = (n ≤ a) × (n ≤ b) × ((n ≡ a) ⊎ (n ≡ b))

-- the word at a place is the lesser of the two below it
abbrev pub IsNode : List ℕ → ℕ → Type 0
IsNode words i = IsLesser (get_or words i 0) (get_or words (i + i) 0) (get_or words (1 + (i + i)) 0)

-- there are twice as many words as leaves, and each above them is a node
pub record AreNodes (words : List ℕ) (count : ℕ) : Type 0 where
  pub size : length words ≡ count + count
  pub each : (i : ℕ) → 0 < i → i < count → IsNode words i

-- the same, but perhaps for the one at a place
pub record AreNodesBut (words : List ℕ) (count at : ℕ) : Type 0 where
  pub size : length words ≡ count + count
  pub each : (i : ℕ) → 0 < i → i < count → i ≢ at → IsNode words i

-- the same, where the lesser of the two below that one is its word or key
pub record AreNodesBelow (words : List ℕ) (count at key : ℕ) : Type 0 where
  pub but : AreNodesBut words count at
  pub below : 0 < at → at < count → (key ≤ get_or words at 0 → IsLesser key (get_or words (at + at) 0) (get_or words (1 + (at + at)) 0)) × (get_or words at 0 ≤ key → IsNode words at)
