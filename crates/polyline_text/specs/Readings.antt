-- What `decode` answers, told by reading from the left.
use Rattle.std.specs.Prelude.{◌≡◌, ℕ, ℤ, List, Vec, Result, Ok, Err, ⊤}
use Rattle.std.specs.Global.{Global}
use Rattle.polyline_text.specs.Decoding.{decoded}
use Rattle.polyline_text.specs.declared.decoding.DecodeError.{DecodeError}
use Rattle.polyline_text.specs.declared.decoding.DecodeError.TheVariants.{BadPolyline, Memory}

-- what reading from the left gives, or want of memory
abbrev pub Reads : ℕ → List ℕ → Result (Vec (ℤ × ℤ) Global) DecodeError → Type 0
Reads digits bytes (Ok points) = decoded digits bytes ≡ Ok points.items
Reads digits bytes (Err (BadPolyline offset)) = decoded digits bytes ≡ Err offset
Reads digits bytes (Err Memory) = ⊤
