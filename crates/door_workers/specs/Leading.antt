-- How control connections lead from list to list, and what their door leaves.
use Rattle.std.specs.Prelude.{◌≡◌, ℕ, List, [], ◌∷◌, ◌++◌, Option, IsNone}
use Rattle.road_io.specs.Faults.{Rose}
use Rattle.road_io.specs.Views.{Transcript}
use Rattle.road_io.specs.Doorway.{DoorView}
use Rattle.door_workers.specs.Passing.{Goes, Ends, counts}
use Rattle.door_workers.specs.declared.sessions.Then.{Then}
use Rattle.door_workers.specs.declared.sessions.Then.TheVariants.{GoOn, Stop}
use Rattle.door_workers.specs.declared.turns.End.{End}
use Rattle.door_workers.specs.declared.turns.End.TheVariants.{Stopped, UsedUp, Broken}
use Rattle.door_workers.specs.declared.turns.Turn.{Turn}
use Rattle.door_workers.specs.declared.turns.Turn.TheVariants.{Served, Last}

-- the rule of a control connection: the list before it, the list behind it, what it asks for
abbrev pub Step : Type 0 → Type 1
Step E = List E → Transcript → List E → Then → Type 0

-- the connections one after another lead from the first list to the last, and none of them asks to stop
abbrev pub Leads : {E : Type 0} → Step E → List E → List Transcript → List E → Type 0
Leads Rule before [] after = after ≡ before
Leads {E} Rule before (t ∷ ts) after = (mid : List E) × Rule before t mid GoOn × Leads Rule mid ts after

-- one connection more, which asks to stop or not; or the door has ended, and the list is as before
abbrev pub TurnGives : {E : Type 0} → Step E → List E → List E → DoorView → DoorView → Turn → Type 0
TurnGives Rule before after old now Served = (t : Transcript) × Rule before t after GoOn × Goes old now (t ∷ [])
TurnGives Rule before after old now (Last Stopped) = (t : Transcript) × Rule before t after Stop × Goes old now (t ∷ [])
TurnGives Rule before after old now (Last UsedUp) = (after ≡ before) × Ends old now [] × (now.faults ≡ old.faults)
TurnGives Rule before after old now (Last Broken) = (after ≡ before) × Ends old now [] × Rose old.faults now.faults

-- so many connections led so far, and the door goes on
pub record LedSoFar {E : Type 0} (Rule : Step E) (before after : List E) (old now : DoorView) (count : ℕ) : Type 0 where
  pub ts : List Transcript
  pub leads : Leads Rule before ts after
  pub goes : Goes old now ts
  pub count_is : count ≡ counts ts

-- the same, and the door has ended
pub record LedToEnd {E : Type 0} (Rule : Step E) (before after : List E) (old now : DoorView) (count : ℕ) : Type 0 where
  pub ts : List Transcript
  pub leads : Leads Rule before ts after
  pub ends : Ends old now ts
  pub count_is : count ≡ counts ts

-- the same, and the last one asked to stop; the door was not asked for another one
pub record LedToStop {E : Type 0} (Rule : Step E) (before after : List E) (old now : DoorView) (count : ℕ) : Type 0 where
  pub ts : List Transcript
  pub mid : List E
  pub last : Transcript
  pub leads : Leads Rule before ts mid
  pub stops : Rule mid last after Stop
  pub goes : Goes old now (ts ++ last ∷ [])
  pub count_is : count ≡ counts (ts ++ last ∷ [])

-- how the loop ends: the closer is spent exactly where a connection asked to stop or the door's count rose
abbrev pub TendGives : {E K : Type 0} → Step E → List E → List E → DoorView → DoorView → Option K → Option K → ℕ → End → Type 0
TendGives Rule before after old now closer left count Stopped = LedToStop Rule before after old now count × IsNone left
TendGives Rule before after old now closer left count UsedUp = LedToEnd Rule before after old now count × (now.faults ≡ old.faults) × (left ≡ closer)
TendGives Rule before after old now closer left count Broken = LedToEnd Rule before after old now count × Rose old.faults now.faults × IsNone left
