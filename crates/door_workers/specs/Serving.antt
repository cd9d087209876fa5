-- What serving leaves of its doors.
use Rattle.std.specs.Prelude.{ℕ, List, All, Option}
use mathlib.Core.List.{IsPrefix}
use Rattle.road_io.specs.Views.{Transcript}
use Rattle.road_io.specs.Doorway.{DoorView}
use Rattle.door_workers.specs.declared.turns.End.{End}
use Rattle.door_workers.specs.Passing.{Ends, GoneToEnd}
use Rattle.door_workers.specs.Leading.{Step, TendGives}

-- a query door ended behind connections that each meet the rule
pub record Answered (old now : DoorView) (Rule : Transcript → Type 0) : Type 0 where
  pub ts : List Transcript
  pub ends : Ends old now ts
  pub each : All Rule ts

-- the same under some list that begins with this one
abbrev pub AnsweredUnder : {E : Type 0} → List E → DoorView → DoorView → (List E → Transcript → Type 0) → Type 0
AnsweredUnder {E} first old now Rule = (list : List E) × IsPrefix first list × Answered old now (Rule list)

-- the control door ended, or its last connection asked to stop
abbrev pub Tended : {E K : Type 0} → Step E → List E → List E → DoorView → DoorView → Option K → Option K → Type 0
Tended Rule before after old now closer left = (count : ℕ) × (end : End) × TendGives Rule before after old now closer left count end

-- what a worker leaves of its door and its seat: the door ended behind connections that each meet the rule under
-- the list that the seat has seen, which begins with what it saw before
pub record AnsweredAt {E : Type 0} (Rule : List E → Transcript → Type 0) (door now : DoorView) (seen after : List E) (count : ℕ) : Type 0 where
  pub gone : GoneToEnd door now (Rule after) count
  pub later : IsPrefix seen after
