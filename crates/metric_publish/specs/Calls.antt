-- What the calls of a board tell of its places.
use Rattle.std.specs.Prelude.{All, ◌≡◌, ◌⊎◌, ℕ, ◌+◌, ◌<◌, List, [], ◌∷◌, ◌++◌, Option, Some, None, Result, Ok, Err, IfOk}
use mathlib.Core.List.{IsPrefix}
use Rattle.std.specs.declared.alloc.AllocError.{AllocError}
use Rattle.std.specs.Arc.{arc_value}
use Rattle.metric_publish.specs.declared.entry.Entry.{Entry}
use Rattle.metric_publish.specs.declared.entry.View.{View}
use Rattle.metric_publish.specs.declared.held.Receipt.{Receipt}
use Rattle.metric_publish.specs.declared.held.Refused.{Refused}
use Rattle.metric_publish.specs.declared.held.Refused.TheVariants.{Spent, Memory}
use Rattle.metric_publish.specs.History.{entry, last_of, last_number}

-- it holds of each of them
abbrev pub Each : {X : Type 0} → List X → (X → Type 0) → Type 0
Each xs P = All P xs

-- one read more, of this number, where reads are told
abbrev pub CountsOne : Option (List ℕ) → Option (List ℕ) → ℕ → Type 0
CountsOne None after number = after ≡ None
CountsOne (Some reads) after number = after ≡ Some (reads ++ number ∷ [])

module _ {V : Type 0} where
  -- the list ends in what is held
  abbrev pub IsLast : List (Entry V) → Entry V → Type 0
  IsLast list held = last_of list ≡ Some held

  -- the list ends in this value
  abbrev pub IsLastValue : List (Entry V) → V → Type 0
  IsLastValue list value = (number : ℕ) × (last_of list ≡ Some (entry number value))

  -- one read: the list that is then seen begins with what was seen and with what was learned, and its last
  -- number was read
  abbrev pub ReadsOne : List (Entry V) → List (Entry V) → List (Entry V) → Option (List ℕ) → Option (List ℕ) → Type 0
  ReadsOne seen learned now reads after =
      IsPrefix seen now × IsPrefix learned now × ((e : Entry V) × (last_of now ≡ Some e) × CountsOne reads after e.number)

  -- an Enter: one read, whose list begins with what was learned too, and ends in what is held.
  -- Where memory ran out there was one read, or nothing changed
  abbrev pub EnterGives : List (Entry V) → List (Entry V) → List (Entry V) → Option (List ℕ) → Option (List ℕ) → Result (Entry V) AllocError → Type 0
  EnterGives seen learned now reads after (Ok held) =
      IsPrefix seen now × IsPrefix learned now × IsLast now held × CountsOne reads after held.number
  EnterGives seen learned now reads after (Err e) =
      ((now ≡ seen) × (after ≡ reads)) ⊎ ReadsOne seen learned now reads after

  -- the value is the list's new last entry, under the next number; or it is handed back, and the list is as before.
  -- No number is left exactly behind 4294967295
  abbrev pub PublishGives : List (Entry V) → List (Entry V) → V → Result Receipt (Refused V) → Type 0
  PublishGives old new value (Ok receipt) =
      (last_number old < 4294967295) × (receipt.number ≡ last_number old + 1) × (new ≡ old ++ entry receipt.number value ∷ [])
  PublishGives old new value (Err (Spent back)) =
      (last_number old ≡ 4294967295) × (new ≡ old) × (arc_value back ≡ value)
  PublishGives old new value (Err (Memory back)) =
      (last_number old < 4294967295) × (new ≡ old) × (arc_value back ≡ value)

  -- one read of a shared board: of this list, which ends in this number
  pub record Entered (v w : View V) (list : List (Entry V)) : Type 0 where
    pub later : IsPrefix v.seen list
    pub all : w.seen ≡ list
    pub last : Entry V
    pub is_last : last_of list ≡ Some last
    pub reads : w.reads ≡ v.reads ++ last.number ∷ []

  -- no look; or one, at this list, which counts as no read
  abbrev pub LookGives : {P : Type 0} → View V → View V → (P → List (Entry V)) → Option P → Type 0
  LookGives v w list None = w ≡ v
  LookGives v w list (Some p) = IsPrefix v.seen (list p) × (w.seen ≡ list p) × (w.reads ≡ v.reads)

  -- no read; or one, with a pointer to the list's last value unless memory ran out
  abbrev pub ReadGives : {P : Type 0} → View V → View V → (P → List (Entry V)) → (P → Result (Entry V) AllocError) → Option P → Type 0
  ReadGives v w list held None = w ≡ v
  ReadGives v w list held (Some p) = Entered v w (list p) × IfOk (held p) (λ h. IsLast (list p) h)
