-- What comes through one door.
use Rattle.std.specs.Prelude.{◌≡◌, ◌⊎◌, ℕ, ◌+◌, ◌-◌, ◌^◌, min, ◌≤◌, Bool, true, false, List, [], ◌∷◌, ◌++◌, length, All, option_map}
use Rattle.road_io.specs.Faults.{Rose}
use Rattle.road_io.specs.Views.{Transcript}
use Rattle.road_io.specs.Doorway.{DoorView, IsUsedUp}

-- these connections came through the door, and each was finished, in this order
pub record Passed (old now : DoorView) (ts : List Transcript) : Type 0 where
  pub transcripts : now.transcripts ≡ option_map (λ all. all ++ ts) old.transcripts
  pub given : now.given ≡ old.given + length ts
  pub finished : now.finished ≡ old.finished + length ts

-- the door goes on behind them
pub record Goes (old now : DoorView) (ts : List Transcript) : Type 0 where
  pub passed : Passed old now ts
  pub ended : now.ended ≡ false
  pub steady : now.faults ≡ old.faults

-- the door ended behind them: no connection is left, or its count of faults rose
pub record Ends (old now : DoorView) (ts : List Transcript) : Type 0 where
  pub passed : Passed old now ts
  pub ended : now.ended ≡ true
  pub later : old.faults ≤ now.faults
  pub cause : ((now.faults ≡ old.faults) × IsUsedUp now.waiting now.closed) ⊎ Rose old.faults now.faults

-- one connection more, which meets the rule; or the door has ended
abbrev pub PassesOne : DoorView → DoorView → (Transcript → Type 0) → Bool → Type 0
PassesOne old now Rule true = (t : Transcript) × Rule t × Goes old now (t ∷ [])
PassesOne old now Rule false = Ends old now []

-- so many, in a count that stands still at 18446744073709551615
abbrev pub counts : List Transcript → ℕ
counts ts = min (length ts) (2 ^ 64 - 1)

-- connections that each meet the rule, so many of them, and the door goes on
pub record GoneSoFar (old now : DoorView) (Rule : Transcript → Type 0) (count : ℕ) : Type 0 where
  pub ts : List Transcript
  pub goes : Goes old now ts
  pub each : All Rule ts
  pub count_is : count ≡ counts ts

-- the same, and the door has ended
pub record GoneToEnd (old now : DoorView) (Rule : Transcript → Type 0) (count : ℕ) : Type 0 where
  pub ts : List Transcript
  pub ends : Ends old now ts
  pub each : All Rule ts
  pub count_is : count ≡ counts ts
