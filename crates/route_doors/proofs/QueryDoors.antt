-- What came through a new door, and what query doors leave.
use Rattle.std.proofs.Common.{◌≡◌, ◌∙◌, ℕ, ◌+◌, List, [], ◌∷◌, ◌++◌, Option, None, Some, option_map, inl, inr, sym, ap, subst, arith}
use Rattle.std.specs.List.{All, AllZip}
use Rattle.std.proofs.lemmas.List.Elements.{All-cons, All-head, All-nil, All-tail}
use mathlib.Core.List.{IsPrefix}
use Rattle.control_port.specs.Controlling.{Board}
use Rattle.door_workers.specs.Passing.{Ends, Passed}
use Rattle.door_workers.specs.Serving.{Answered, AnsweredUnder}
use Rattle.road_io.specs.DoorOpening.{IsNewDoor, IsNoneYet}
use Rattle.road_io.specs.Doorway.{DoorView}
use Rattle.road_io.specs.Faults.{Rose}
use Rattle.road_io.specs.Views.{Transcript}
use Rattle.route_doors.specs.RoadDoors.{CameThrough, HasEnded, IsAnsweredDoor, IsQueried, IsTold}

told_since : (old now : Option (List Transcript)) (ts : List Transcript) → IsNoneYet old → now ≡ option_map (λ all. all ++ ts) old → IsTold now ts
told_since None now ts none is = subst (λ (o : Option (List Transcript)). IsTold o ts) (sym is) tt
told_since (Some all) now ts none is = subst (λ (o : Option (List Transcript)). IsTold o ts) (sym is) (ap (λ (w : List Transcript). w ++ ts) none)

-- just these connections came through a door that was new
pub came_through : (old now : DoorView) (ts : List Transcript) → IsNewDoor old → Passed old now ts → CameThrough now ts
came_through old now ts new passed = record {
  told = told_since old.transcripts now.transcripts ts new.transcripts passed.transcripts;
  given = omega (arith, passed.given, new.given);
  finished = omega (arith, passed.finished, new.finished);
}

-- and it has ended
pub has_ended : (old now : DoorView) (ts : List Transcript) → IsNewDoor old → Ends old now ts → HasEnded now
has_ended old now ts new ends = record {
  ended = ends.ended;
  cause = elim ends.cause [ inl same ↦ inl (same.0 ∙ new.faults, same.1) | inr rose ↦ inr (subst (λ (n : ℕ). Rose n now.faults) new.faults rose) ];
}

-- a query door that was new
pub answered_door : (list : Board) (old now : DoorView) → IsNewDoor old → Answered old now (IsQueried list) → IsAnsweredDoor list now
answered_door list old now new answered = record {
  connections = answered.ts;
  came = came_through old now answered.ts new answered.ends.passed;
  ended = has_ended old now answered.ts new answered.ends;
  each = answered.each;
}

-- the same under some list that begins with this one
pub answered_apart : (opening : Board) (old now : DoorView) → IsNewDoor old → AnsweredUnder opening old now IsQueried → (list : Board) × IsPrefix opening list × IsAnsweredDoor list now
answered_apart opening old now new under = (under.0, under.1, answered_door under.0 old now new under.2)

-- what is so of each new door is so of all
pub each_new : (R : DoorView → DoorView → Type 0) (Q : DoorView → Type 0) → ((old now : DoorView) → IsNewDoor old → R old now → Q now) → (olds news : List DoorView) → All IsNewDoor olds → AllZip R olds news → All Q news
each_new R Q gives [] [] new zip = All-nil Q
each_new R Q gives [] (y ∷ ys) new zip = absurd zip
each_new R Q gives (x ∷ xs) [] new zip = absurd zip
each_new R Q gives (x ∷ xs) (y ∷ ys) new zip =
    All-cons Q y ys (gives x y (All-head IsNewDoor x xs new) zip.0) (each_new R Q gives xs ys (All-tail IsNewDoor x xs new) zip.1)
