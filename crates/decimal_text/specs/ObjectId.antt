-- Ids of OpenStreetMap objects in text: an optional `-` and 1 to 19 digits, in the range of a signed
-- number of 64 bits (OPL, osmcode.org/opl-file-format; the range is this project's rule).
use Rattle.std.specs.Prelude.{ℕ, ℤ, Bool, ◌&&◌, List, length, nat_le, Option, Some, None, if◌then◌else◌}
use Rattle.std.specs.Str.Parse.{digits_value, starts_with_minus}
use Rattle.decimal_text.specs.Numeral.{is_numeral, without_minus, signed_as}

-- the greatest magnitude in range: 2^63 below zero, one less above
abbrev pub greatest_magnitude : List ℕ → ℕ
greatest_magnitude text = if starts_with_minus text then 9223372036854775808 else 9223372036854775807

abbrev pub is_id : List ℕ → Bool
is_id text =
    is_numeral (without_minus text) && nat_le (length (without_minus text)) 19
    && nat_le (digits_value 10 (without_minus text)) (greatest_magnitude text)

-- the id that the text writes, or None where it writes none
unfoldable pub id_of : List ℕ → Option ℤ
id_of text = if is_id text then Some (signed_as text (digits_value 10 (without_minus text))) else None
