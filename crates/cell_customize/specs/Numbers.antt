-- For the functions of this crate alone: numbers for some vertices.
use Rattle.std.specs.Prelude.{◌≡◌, ℕ, ◌<◌, ◌^◌, List, length, Some}
use Rattle.std.specs.List.{slice_get}

-- the table has each vertex's place among the names
pub record IsNumbered (names table : List ℕ) : Type 0 where
  pub few : length names < 2 ^ 32
  pub each : (a v : ℕ) → slice_get names a ≡ Some v → slice_get table v ≡ Some a

-- what stood at a place stands there still
abbrev pub Keeps : {X : Type 0} → List X → List X → Type 0
Keeps {X} old new = (i : ℕ) (x : X) → slice_get old i ≡ Some x → slice_get new i ≡ Some x

-- all are below n
abbrev pub AreBelow : ℕ → List ℕ → Type 0
AreBelow n names = (a v : ℕ) → slice_get names a ≡ Some v → v < n

-- v is among them, and nothing else came
pub record Adds (old new : List ℕ) (v : ℕ) : Type 0 where
  pub keeps : Keeps old new
  pub only : (n : ℕ) → AreBelow n old → v < n → AreBelow n new

-- more came, all of them below n
pub record Grows (n : ℕ) (old new : List ℕ) : Type 0 where
  pub keeps : Keeps old new
  pub below : AreBelow n old → AreBelow n new
