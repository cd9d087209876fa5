-- How what passed a door adds up.
use Rattle.std.proofs.Common.{◌≡◌, ℕ, ◌+◌, ◌-◌, ◌^◌, min, true, false, List, [], ◌∷◌, ◌++◌, Option, Some, None, option_map, refl, ap, sym, ◌∙◌, subst, arith, append_assoc, length-append}
use Rattle.std.specs.List.{All}
use Rattle.std.proofs.lemmas.List.{append-nil}
use Rattle.std.proofs.lemmas.List.Elements.{All-nil, All-push, All-weaker}
use mathlib.Core.List.{IsPrefix}
use Rattle.road_io.specs.Views.{Transcript}
use Rattle.road_io.specs.Doorway.{DoorView, after_finish}
use Rattle.door_workers.specs.Passing.{Passed, Goes, Ends, PassesOne, GoneSoFar, GoneToEnd}

map_none : (told : Option (List Transcript)) → told ≡ option_map (λ all. all ++ []) told
map_none None = refl
map_none (Some all) = ap Some (sym (append-nil all))

map_then : (ts us : List Transcript) (told : Option (List Transcript)) → option_map (λ all. all ++ us) (option_map (λ all. all ++ ts) told) ≡ option_map (λ all. all ++ (ts ++ us)) told
map_then ts us None = refl
map_then ts us (Some all) = ap Some (append_assoc all ts us)

-- nothing passed
pub passed_none : (old now : DoorView) → now.transcripts ≡ old.transcripts → now.given ≡ old.given → now.finished ≡ old.finished → Passed old now []
passed_none old now transcripts given finished = record {
  transcripts = transcripts ∙ map_none old.transcripts;
  given = omega (arith, given);
  finished = omega (arith, finished);
}

pub passed_then : (old mid now : DoorView) (ts us : List Transcript) → Passed old mid ts → Passed mid now us → Passed old now (ts ++ us)
passed_then old mid now ts us one two = record {
  transcripts = two.transcripts ∙ ap (option_map (λ all. all ++ us)) one.transcripts ∙ map_then ts us old.transcripts;
  given = omega (arith, one.given, two.given, length-append ts us);
  finished = omega (arith, one.finished, two.finished, length-append ts us);
}

-- where the door is as before, it goes on behind nothing
pub goes_none : (door : DoorView) → door.ended ≡ false → Goes door door []
goes_none door unended = record { passed = passed_none door door refl refl refl; ended = unended; steady = refl }

pub goes_then : (old mid now : DoorView) (ts us : List Transcript) → Goes old mid ts → Goes mid now us → Goes old now (ts ++ us)
goes_then old mid now ts us one two = record {
  passed = passed_then old mid now ts us one.passed two.passed;
  ended = two.ended;
  steady = two.steady ∙ one.steady;
}

pub ends_then : (old mid now : DoorView) (ts us : List Transcript) → Goes old mid ts → Ends mid now us → Ends old now (ts ++ us)
ends_then old mid now ts us one two = record {
  passed = passed_then old mid now ts us one.passed two.passed;
  ended = two.ended;
  later = omega (arith, one.steady, two.later);
  cause = rw (← one.steady) two.cause;
}

-- a connection that the door gave, and that was finished
pub one_passes : (old mid : DoorView) (t : Transcript) → mid.ended ≡ old.ended → mid.transcripts ≡ old.transcripts → mid.given ≡ old.given + 1 → mid.finished ≡ old.finished → mid.faults ≡ old.faults → old.ended ≡ false
    → Goes old (after_finish mid t) (t ∷ [])
one_passes old mid t ended transcripts given finished faults unended = record {
  passed = record { transcripts = ap (option_map (λ all. all ++ t ∷ [])) transcripts; given = given; finished = omega (arith, finished) };
  ended = ended ∙ unended;
  steady = faults;
}

module _ {E : Type 0} (Rule : List E → Transcript → Type 0) (longer : (xs ys : List E) (t : Transcript) → IsPrefix xs ys → Rule xs t → Rule ys t) where
  each_longer : (xs ys : List E) → IsPrefix xs ys → (ts : List Transcript) → All (Rule xs) ts → All (Rule ys) ts
  each_longer xs ys more ts each = All-weaker (Rule xs) (Rule ys) (λ t. longer xs ys t more) ts each

  -- one connection more, under a longer list
  pub so_far_then : (old mid now : DoorView) (xs ys : List E) (count : ℕ) → IsPrefix xs ys → GoneSoFar old mid (Rule xs) count → PassesOne mid now (Rule ys) true → GoneSoFar old now (Rule ys) (min (count + 1) (2 ^ 64 - 1))
  so_far_then old mid now xs ys count more gone one = record {
    ts = gone.ts ++ one.0 ∷ [];
    goes = goes_then old mid now gone.ts (one.0 ∷ []) gone.goes one.2;
    each = All-push (Rule ys) gone.ts one.0 (each_longer xs ys more gone.ts gone.each) one.1;
    count_is = omega (arith, gone.count_is, length-append gone.ts (one.0 ∷ []));
  }

  -- the end, under a longer list
  pub to_end_then : (old mid now : DoorView) (xs ys : List E) (count : ℕ) → IsPrefix xs ys → GoneSoFar old mid (Rule xs) count → PassesOne mid now (Rule ys) false → GoneToEnd old now (Rule ys) count
  to_end_then old mid now xs ys count more gone ends = record {
    ts = gone.ts;
    ends = subst (λ (ts : List Transcript). Ends old now ts) (append-nil gone.ts) (ends_then old mid now gone.ts [] gone.goes ends);
    each = each_longer xs ys more gone.ts gone.each;
    count_is = gone.count_is;
  }

  -- a worker's end under the list of all
  pub to_end_longer : (old now : DoorView) (xs ys : List E) (count : ℕ) → IsPrefix xs ys → GoneToEnd old now (Rule xs) count → GoneToEnd old now (Rule ys) count
  to_end_longer old now xs ys count more gone = record { ts = gone.ts; ends = gone.ends; each = each_longer xs ys more gone.ts gone.each; count_is = gone.count_is }

pub so_far_none : (Rule : Transcript → Type 0) (door : DoorView) → door.ended ≡ false → GoneSoFar door door Rule 0
so_far_none Rule door unended = record { ts = []; goes = goes_none door unended; each = All-nil Rule; count_is = refl }
