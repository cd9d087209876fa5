-- What `decode` answers.
use Rattle.std.specs.Prelude.{◌≡◌, ℕ, ℤ, Bool, ◌||◌, ◌==◌, List, Vec, Result, Ok, Err, ⊤}
use Rattle.std.specs.Global.{Global}
use Rattle.polyline_text.specs.Grammar.{Path, IsPath, IsFirstFault}
use Rattle.polyline_text.specs.declared.decoding.DecodeError.{DecodeError}
use Rattle.polyline_text.specs.declared.decoding.DecodeError.TheVariants.{BadPolyline, Memory}

-- 5 or 6 digits
abbrev pub is_digits : ℕ → Bool
is_digits digits = digits == 5 || digits == 6

-- points of which the bytes are the text, or the offset of the first fault, or want of memory
abbrev pub Answers : ℕ → List ℕ → Result (Vec (ℤ × ℤ) Global) DecodeError → Type 0
Answers digits bytes (Ok points) = IsPath digits bytes points.items
Answers digits bytes (Err (BadPolyline offset)) = IsFirstFault digits bytes offset
Answers digits bytes (Err Memory) = ⊤

-- these points, unless memory was wanting
abbrev pub AnswersPath : Path → Result (Vec (ℤ × ℤ) Global) DecodeError → Type 0
AnswersPath path (Ok points) = points.items ≡ path
AnswersPath path (Err (BadPolyline offset)) = ⊥
AnswersPath path (Err Memory) = ⊤
