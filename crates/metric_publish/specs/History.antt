-- The list of publications, its rule, and what its steps tell: this project's own.
use Rattle.std.specs.Prelude.{ℕ, ◌≡◌, ◌==◌, ◌+◌, true, List, [], ◌∷◌, ◌++◌, length, MatchBool, Option, Some, None}
use Rattle.std.specs.Arc.{arc_value}
use Rattle.logbook.specs.Pages.{Cell, Step, View, Book, Named}
use Rattle.metric_publish.specs.declared.entry.Entry.{Entry}
use Rattle.metric_publish.specs.declared.entry.Put.{Put}

-- the last of a list that begins with x
abbrev pub last_from : {A : Type 0} → A → List A → A
last_from x [] = x
last_from x (y ∷ ys) = last_from y ys

abbrev pub last_of : {A : Type 0} → List A → Option A
last_of [] = None
last_of (x ∷ xs) = Some (last_from x xs)

module _ {V : Type 0} where
  abbrev pub entry : ℕ → V → Entry V
  entry n x = record { number = n; value = x }

  abbrev pub entry_of : Put V → Entry V
  entry_of p = entry p.number (arc_value p.value)

  -- the number of the last publication; each list that a board has is one entry at least
  abbrev pub last_number : List (Entry V) → ℕ
  last_number [] = 0
  last_number (e ∷ es) = (last_from e es).number

  abbrev pub IsNumbered : ℕ → List (Entry V) → Type 0
  IsNumbered n [] = Unit {0}
  IsNumbered n (e ∷ es) = (e.number ≡ n) × IsNumbered (n + 1) es

  -- the numbers run up by one
  abbrev pub IsRun : List (Entry V) → Type 0
  IsRun [] = Unit {0}
  IsRun (e ∷ es) = IsNumbered e.number (e ∷ es)

  -- the entry has the next number
  abbrev pub MayFollow : List (Entry V) → Entry V → Type 0
  MayFollow log e = IsRun (log ++ e ∷ [])

  -- the number may come next
  abbrev pub IsNext : List (Entry V) → ℕ → Type 0
  IsNext [] n = Unit {0}
  IsNext (e ∷ es) n = n ≡ (last_from e es).number + 1

  -- the value is akin to the list's first
  abbrev pub IsKin : (V → V → Type 0) → List (Entry V) → V → Type 0
  IsKin akin [] x = Unit {0}
  IsKin akin (e ∷ es) x = akin e.value x

  abbrev pub AllKin : (V → Type 0) → List (Entry V) → Type 0
  AllKin akin [] = Unit {0}
  AllKin akin (e ∷ es) = akin e.value × AllKin akin es

  -- all values are akin to the first
  abbrev pub AreKin : (V → V → Type 0) → List (Entry V) → Type 0
  AreKin akin [] = Unit {0}
  AreKin akin (e ∷ es) = AllKin (akin e.value) (e ∷ es)

  -- the first word is the length of the list. A book has two words, of which this one leaves the second at 0
  pub record IsKept (akin : V → V → Type 0) (cells : List Cell) (log : List (Entry V)) : Type 0 where
    pub words : cells ≡ (length log, true) ∷ (0, true) ∷ []
    pub runs : IsRun log
    pub kin_is : AreKin akin log

  -- the entry was added to all that had been reached; or the list was longer, and was reached
  abbrev pub Adds : Step (Entry V) → View (Entry V) ℕ → ℕ → View (Entry V) ℕ → Type 0
  Adds s v found w = MatchBool (found == s.old) (w.0 ≡ v.0 ++ s.ask ∷ []) (length w.0 ≡ found)

abbrev pub head_of : Book → Named
head_of b = record { tracked = true; key = 0; book = b }
