-- What is told of the opening of doors, and of their coming back.
use Rattle.std.specs.Prelude.{◌≡◌, ℕ, ◌+◌, ◌-◌, ◌<◌, ◌≤◌, false, List, [], ◌∷◌, ◌++◌, length, All, sum_by, Option, None, Some, Result, Ok, Err, option_map, ⊤}
use Rattle.road_io.specs.declared.failures.DoorsFault.{DoorsFault}
use Rattle.road_io.specs.declared.failures.DoorsFault.TheVariants.{Failed, Memory}
use Rattle.road_io.specs.Faults.{Rose}
use Rattle.road_io.specs.Views.{Transcript}
use Rattle.road_io.specs.Doorway.{DoorView}

-- what an opening asked for: two addresses, and how many query doors
pub record Asked : Type 0 where
  pub query : List ℕ
  pub control : List ℕ
  pub workers : ℕ

abbrev pub asked : List ℕ → List ℕ → ℕ → Asked
asked query control workers = record { query = query; control = control; workers = workers }

-- the query doors and the control door of one opening
pub record DoorViews : Type 0 where
  pub queries : List DoorView
  pub control : DoorView

abbrev pub door_set : List DoorView → DoorView → DoorViews
door_set queries control = record { queries = queries; control = control }

-- where told, each opening that gave doors and each that failed; how many doors are out; where told,
-- the doors that came back; the count of faults
pub record DoorsView : Type 0 where
  pub opened : Option (List Asked)
  pub failed : Option (List Asked)
  pub out : ℕ
  pub back : Option (List DoorViews)
  pub faults : ℕ

-- where told, there are none yet
abbrev pub IsNoneYet : Option (List Transcript) → Type 0
IsNoneYet None = ⊤
IsNoneYet (Some transcripts) = transcripts ≡ []

-- a door that was just opened
pub record IsNewDoor (door : DoorView) : Type 0 where
  pub transcripts : IsNoneYet door.transcripts
  pub given : door.given ≡ 0
  pub finished : door.finished ≡ 0
  pub closed : door.closed ≡ false
  pub ended : door.ended ≡ false
  pub faults : door.faults ≡ 0

-- what `open` answers: a new door per worker and one for control; Failed, where the count rose; or
-- Memory, where all is as before
abbrev pub OpenGives : {O : Type 0} → DoorsView → Result O DoorsFault → DoorsView → Asked → (O → DoorViews) → Type 0
OpenGives old (Ok opened) new words views =
    (length (views opened).queries ≡ words.workers)
    × All IsNewDoor (views opened).queries
    × IsNewDoor (views opened).control
    × (new ≡ record old { opened = option_map (λ all. all ++ words ∷ []) old.opened; out = old.out + (words.workers + 1) })
OpenGives old (Err Failed) new words views =
    (old.faults ≤ new.faults)
    × Rose old.faults new.faults
    × (new ≡ record old { failed = option_map (λ all. all ++ words ∷ []) old.failed; faults = new.faults })
OpenGives old (Err Memory) new words views = new ≡ old

-- how many faults these doors have counted since they were opened
abbrev pub faults_of : DoorViews → ℕ
faults_of doors = sum_by (λ door. door.faults) doors.queries + doors.control.faults

-- what `back` leaves: the doors with what they tell, so many fewer out, and a count that rose exactly
-- where one of the doors has counted a fault
pub record BackGives (old : DoorsView) (doors : DoorViews) (new : DoorsView) : Type 0 where
  pub later : old.faults ≤ new.faults
  pub rose : 0 < faults_of doors → Rose old.faults new.faults
  pub kept : faults_of doors ≡ 0 → new.faults ≡ old.faults
  pub rest : new ≡ record old { out = old.out - (length doors.queries + 1); back = option_map (λ all. all ++ doors ∷ []) old.back; faults = new.faults }
