-- What a door tells.
use Rattle.std.specs.Prelude.{◌≡◌, ℕ, ◌+◌, ◌-◌, ◌≤◌, ◌⊎◌, Bool, true, false, IsTrue, List, [], ◌∷◌, ◌++◌, Option, None, Some, Result, Ok, Err, option_map}
use Rattle.road_io.specs.declared.failures.Failed.{Failed}
use Rattle.road_io.specs.Faults.{Rose}
use Rattle.road_io.specs.Views.{Transcript}

-- the transcripts of its finished connections and how many connections wait, both where told; how many
-- it gave and how many were finished; whether it has seen that it was closed; whether it has ended, by
-- a None or a Failed; its count of faults
pub record DoorView : Type 0 where
  pub transcripts : Option (List Transcript)
  pub waiting : Option ℕ
  pub given : ℕ
  pub finished : ℕ
  pub closed : Bool
  pub ended : Bool
  pub faults : ℕ

-- no connection is left: none waits where that is told, and else the door was closed
abbrev pub IsUsedUp : Option ℕ → Bool → Type 0
IsUsedUp None closed = IsTrue closed
IsUsedUp (Some waiting) closed = waiting ≡ 0

-- where told, one connection waits less
abbrev pub TakesOne : Option ℕ → Option ℕ → Type 0
TakesOne None new = new ≡ None
TakesOne (Some waiting) new = (new ≡ Some (waiting - 1)) × (1 ≤ waiting)

-- what `next` answers: a fresh connection; None, where the door had ended or no connection is left; or
-- Failed, where its count rose. A door that has ended answers None, and one that was closed stays so
abbrev pub NextGives : {C : Type 0} → DoorView → Result (Option C) Failed → DoorView → (C → Type 0) → Type 0
NextGives old (Ok (Some conn)) new IsFresh =
    (old.ended ≡ false)
    × TakesOne old.waiting new.waiting
    × (new ≡ record old { given = old.given + 1; waiting = new.waiting })
    × IsFresh conn
NextGives old (Ok None) new IsFresh =
    ((old.ended ≡ true) ⊎ IsUsedUp old.waiting new.closed)
    × (IsTrue old.closed → IsTrue new.closed)
    × (new ≡ record old { closed = new.closed; ended = true })
NextGives old (Err failed) new IsFresh =
    (old.ended ≡ false)
    × (old.faults ≤ new.faults)
    × Rose old.faults new.faults
    × (new ≡ record old { ended = true; faults = new.faults })

-- the door with one more finished connection
abbrev pub after_finish : DoorView → Transcript → DoorView
after_finish old t =
    record old { transcripts = option_map (λ ts. ts ++ t ∷ []) old.transcripts; finished = old.finished + 1 }
