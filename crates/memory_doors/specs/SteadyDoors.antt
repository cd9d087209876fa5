-- What doors in memory tell that never fail: which connections come through them, in which order, and that their counts
-- of faults are 0, whatever was called.
use Rattle.std.specs.Prelude.{◌≡◌, ℕ, zero, suc, ◌+◌, Bool, true, false, List, [], ◌∷◌, length, map, replicate, Option, Some, None, Result, Ok, Err}
use Rattle.road_io.specs.DoorOpening.{DoorsView}
use Rattle.road_io.specs.Doorway.{DoorView}
use Rattle.road_io.specs.Views.{Transcript}
use Rattle.road_io.specs.declared.failures.Failed.{Failed}

-- one door: the connections to come, how many it gave, those that came back, all in order, and whether it has ended
pub record SteadyDoorState (C : Type 0) : Type 0 where
  pub waiting : List C
  pub given : ℕ
  pub finished : List C
  pub ended : Bool

-- what opens them: the connections that are to come through query doors and through control doors, in order, and how
-- many doors are out
pub record SteadyDoorsState (C : Type 0) : Type 0 where
  pub queries : List C
  pub control : List C
  pub out : ℕ

module _ {C : Type 0} where
  -- what a door tells, by the transcripts of its connections
  abbrev pub steady_door : (C → Transcript) → SteadyDoorState C → DoorView
  steady_door transcript door = record {
    transcripts = Some (map transcript door.finished);
    waiting = Some (length door.waiting);
    given = door.given;
    finished = length door.finished;
    closed = false;
    ended = door.ended;
    faults = 0;
  }

  -- one through which these connections are to come
  abbrev pub new_steady_door : List C → SteadyDoorState C
  new_steady_door connections = record { waiting = connections; given = 0; finished = []; ended = false }

  -- what `next` answers: the first of the connections that wait, or none. It never fails
  abbrev pub NextInTurn : SteadyDoorState C → Result (Option C) Failed → SteadyDoorState C → Type 0
  NextInTurn old (Ok (Some conn)) new =
      (old.waiting ≡ conn ∷ new.waiting) × (new ≡ record old { waiting = new.waiting; given = old.given + 1 })
  NextInTurn old (Ok None) new = new ≡ record old { ended = true }
  NextInTurn old (Err failed) new = ⊥

  -- what opens doors tells: no opening failed, and nothing is told of those that gave doors, nor of what came back
  abbrev pub steady_doors : SteadyDoorsState C → DoorsView
  steady_doors doors = record { opened = None; failed = Some []; out = doors.out; back = None; faults = 0 }

  -- so many doors: all of these connections come through the first, and none through the others
  abbrev pub doors_through : ℕ → List C → List (SteadyDoorState C)
  doors_through zero connections = []
  doors_through (suc others) connections = new_steady_door connections ∷ replicate others (new_steady_door [])

  -- and where there is no door, all are left
  abbrev pub left_behind : ℕ → List C → List C
  left_behind zero connections = connections
  left_behind (suc others) connections = []

  -- what is left once doors for so many workers were opened
  abbrev pub after_open : ℕ → SteadyDoorsState C → SteadyDoorsState C
  after_open workers old = record { queries = left_behind workers old.queries; control = []; out = old.out + (workers + 1) }
