-- Digits with an optional minus sign in front, as OPL (osmcode.org/opl-file-format) writes numbers.
use Rattle.std.specs.Prelude.{ℕ, ℤ, pos, neg_ℤ, Bool, ◌&&◌, not, List, length, drop, min, ◌==◌, Option, Some, None, if◌then◌else◌}
use Rattle.std.specs.Char.{is_ascii_digit}
use Rattle.std.specs.List.{list_all}
use Rattle.std.specs.Str.Parse.{digits_value, starts_with_minus}

-- one or more decimal digits and nothing else; leading zeros are digits as others
abbrev pub is_numeral : List ℕ → Bool
is_numeral bytes = not (length bytes == 0) && list_all (λ b. is_ascii_digit b) bytes

-- the number that a numeral writes, held within a limit
abbrev pub whole_within : ℕ → List ℕ → Option ℕ
whole_within limit text = if is_numeral text then Some (min (digits_value 10 text) limit) else None

-- the text without its minus sign, if it has one
abbrev pub without_minus : List ℕ → List ℕ
without_minus text = if starts_with_minus text then drop 1 text else text

-- the number of this magnitude, below zero where the text begins with a minus sign
abbrev pub signed_as : List ℕ → ℕ → ℤ
signed_as text magnitude = if starts_with_minus text then neg_ℤ (pos magnitude) else pos magnitude
