-- The rule of a shared board, and what a step of a seat shows.
use Rattle.std.specs.Prelude.{◌≡◌, ℕ, List, [], ◌∷◌, ◌++◌, length, take}
use mathlib.Core.Option.{some}
use mathlib.Core.List.{IsPrefix}
use lib.ListN.{get_elem?}
use Rattle.metric_publish.specs.declared.entry.Entry.{Entry}
use Rattle.metric_publish.specs.declared.entry.View.{View}

-- the second list begins with the first
abbrev pub IsFront : {A : Type 0} → List A → List A → Type 0
IsFront xs ys = take (length xs) ys ≡ xs

module _ {V : Type 0} where
  -- the list of publications begins with what each place has seen
  abbrev pub Keeps : List (Entry V) → List (View V) → Type 0
  Keeps list views = (seat : ℕ) (v : View V) → get_elem? views seat ≡ some v → IsPrefix v.seen list

  abbrev pub newcomer : View V
  newcomer = record { seen = []; reads = [] }

  -- the whole list is seen, which begins with all that was seen, and no read is counted
  pub record Sits (v : View V) (list : List (Entry V)) (w : View V) : Type 0 where
    pub later : IsPrefix v.seen list
    pub all : w.seen ≡ list
    pub reads : w.reads ≡ v.reads

  -- the whole list is seen, which begins with all that was seen, and the read is counted
  pub record Sees (v : View V) (list : List (Entry V)) (number : ℕ) (w : View V) : Type 0 where
    pub later : IsPrefix v.seen list
    pub all : w.seen ≡ list
    pub reads : w.reads ≡ v.reads ++ number ∷ []
