-- What doors that never fail tell once they are given, and once they are back.
use Rattle.std.proofs.Common.{◌≡◌, ℕ, zero, suc, ◌+◌, ◌-◌, ◌<◌, List, [], ◌∷◌, All, length, map, replicate, refl, ap, sym, ◌∙◌, arith, subst}
use Rattle.std.proofs.lemmas.List.{length-map, length-replicate}
use Rattle.std.proofs.lemmas.List.Elements.{All-cons, All-map, All-nil, All-replicate}
use Rattle.std.specs.Prelude.{sum_by}
use Rattle.road_io.specs.DoorOpening.{Asked, BackGives, IsNewDoor, door_set}
use Rattle.road_io.specs.Doorway.{DoorView}
use Rattle.road_io.specs.Views.{Transcript}
use Rattle.memory_doors.specs.SteadyDoors.{SteadyDoorState, SteadyDoorsState, after_open, doors_through, new_steady_door, steady_door, steady_doors}

module _ {C : Type 0} where
  count_through : (count : ℕ) (connections : List C) → length (doors_through count connections) ≡ count
  count_through zero connections = refl
  count_through (suc others) connections = omega (arith, length-replicate others (new_steady_door {C = C} []))

module _ {C : Type 0} (transcript : C → Transcript) where
  is_new : (connections : List C) → IsNewDoor (steady_door transcript (new_steady_door connections))
  is_new connections = record { transcripts = refl; given = refl; finished = refl; closed = refl; ended = refl; faults = refl }

  abbrev IsNew : SteadyDoorState C → Type 0
  IsNew door = IsNewDoor (steady_door transcript door)

  through_new : (count : ℕ) (connections : List C) → All IsNew (doors_through count connections)
  through_new zero connections = All-nil IsNew
  through_new (suc others) connections =
      All-cons IsNew (new_steady_door connections) (replicate others (new_steady_door [])) (is_new connections) (All-replicate IsNew others (new_steady_door []) (is_new []))

  -- new doors were given, one for queries per worker, and so many more are out
  pub opens : (old new : SteadyDoorsState C) (queries : List (SteadyDoorState C)) (control : SteadyDoorState C) (words : Asked)
      → queries ≡ doors_through words.workers old.queries → control ≡ new_steady_door old.control → new ≡ after_open words.workers old
      → (length (map (steady_door transcript) queries) ≡ words.workers) × All IsNewDoor (map (steady_door transcript) queries) × IsNewDoor (steady_door transcript control) × (steady_doors new ≡ record (steady_doors old) { out = old.out + (words.workers + 1) })
  opens old new queries control words queries_are control_is new_is = (
    length-map queries (steady_door transcript) ∙ ap (λ (ds : List (SteadyDoorState C)). length ds) queries_are ∙ count_through words.workers old.queries,
    All-map IsNewDoor (steady_door transcript) queries (subst (λ (ds : List (SteadyDoorState C)). All IsNew ds) (sym queries_are) (through_new words.workers old.queries)),
    subst IsNew (sym control_is) (is_new old.control),
    ap (λ (s : SteadyDoorsState C). steady_doors s) new_is,
  )

  -- none of them has counted a fault
  none_counted : (doors : List (SteadyDoorState C)) → sum_by (λ (door : DoorView). door.faults) (map (steady_door transcript) doors) ≡ 0
  none_counted [] = refl
  none_counted (door ∷ doors) = none_counted doors

  not_counted : (doors : List (SteadyDoorState C)) → 0 < sum_by (λ (door : DoorView). door.faults) (map (steady_door transcript) doors) + 0 → ⊥
  not_counted doors some = omega (arith, none_counted doors)

  -- so none has when they come back, and so many fewer are out
  pub back_gives : (old : SteadyDoorsState C) (out : ℕ) (queries : List (SteadyDoorState C)) (control : SteadyDoorState C) → out ≡ old.out - (length queries + 1)
      → BackGives (steady_doors old) (door_set (map (steady_door transcript) queries) (steady_door transcript control)) (record (steady_doors old) { out = out })
  back_gives old out queries control is = record {
    later = omega arith;
    rose = λ some. absurd (not_counted queries some);
    kept = λ none. refl;
    rest = ap (λ (n : ℕ). record (steady_doors old) { out = n }) (is ∙ ap (λ (n : ℕ). old.out - (n + 1)) (sym (length-map queries (steady_door transcript))));
  }
