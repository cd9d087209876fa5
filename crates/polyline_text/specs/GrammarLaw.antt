-- Reading from the left says what the grammar says.
use Rattle.std.specs.Prelude.{◌≡◌, ℕ, List, Result, Ok, Err}
use Rattle.polyline_text.specs.Decoding.{decoded}
use Rattle.polyline_text.specs.Grammar.{Path, IsPath, IsFirstFault}

-- what is read of a text is what the grammar has of it: its points, or an offset of a first fault
abbrev pub IsOfGrammar : ℕ → List ℕ → Result Path ℕ → Type 0
IsOfGrammar digits bytes (Ok points) = IsPath digits bytes points
IsOfGrammar digits bytes (Err offset) = IsFirstFault digits bytes offset

-- points that the grammar has are read, so no text has others, and a text that has points has no fault
abbrev pub IsRead : ℕ → List ℕ → Path → Type 0
IsRead digits bytes points = IsPath digits bytes points → decoded digits bytes ≡ Ok points
