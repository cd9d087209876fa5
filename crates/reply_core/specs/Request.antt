-- The lines that ask for an answer: `GET` and a target.
use Rattle.std.specs.Prelude.{ℕ, Bool, ◌&&◌, List, length, take, drop, codes, bytes_eq, nat_le, Option, Some, None, if◌then◌else◌}
use Rattle.std.specs.Str.{is_utf8}

-- the line is text of at most 8192 bytes that begins with `GET` and one blank
abbrev pub asks : List ℕ → Bool
asks line = nat_le (length line) 8192 && (is_utf8 line && bytes_eq (take 4 line) (codes "GET "))

-- the target that a line asks for: all that follows `GET` and one blank, further blanks too; None where the
-- line is of another form
abbrev pub target_of : List ℕ → Option (List ℕ)
target_of line = if asks line then Some (drop 4 line) else None
