-- A board between two events, as callers see it.
use Rattle.std.specs.Prelude.{ℕ, ◌<◌, ◌≤◌, List, replicate, slice_index}

-- a publication: its number, and the tag that stands for its value
pub record Entry : Type 0 where
  pub number : ℕ
  pub tag : ℕ

abbrev pub entry : ℕ → ℕ → Entry
entry number tag = record { number = number; tag = tag }

-- the last entry, and for each seat the greatest number that it was entered with or has learned
pub record State : Type 0 where
  pub last : Entry
  pub known : List ℕ

abbrev pub state : Entry → List ℕ → State
state last known = record { last = last; known = known }

-- a board that was just opened: every seat knows the opening entry
abbrev pub opened : ℕ → ℕ → ℕ → State
opened seats first tag = state (entry first tag) (replicate seats first)

-- what holds of every board: the last number is one of 32 bits, and no seat knows one above it
pub record IsKept (s : State) : Type 0 where
  pub small : s.last.number < 4294967296
  pub known : (seat : ℕ) → slice_index s.known seat ≤ s.last.number
