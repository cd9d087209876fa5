-- Escapes in keys, values and roles (osmcode.org/opl-file-format): `%`, 1 to 6 hexadecimal digits in
-- either case and `%` stand for the character of that number.
use Rattle.std.specs.Prelude.{ℕ, Bool, ◌&&◌, ◌==◌, not, nat_le, List, [], ◌∷◌, ◌++◌, length, Option, Some, None, Result, Ok, Err, if◌then◌else◌}
use Rattle.std.specs.Char.{encode_utf8, is_ascii_hexdigit}
use Rattle.std.specs.List.{list_all, slice_split}
use Rattle.std.specs.Str.{byte}
use Rattle.std.specs.Str.Parse.{digits_value}
use lib.Utf8.{scalar}
use Rattle.opl_read.specs.Faults.{mapped}
use Rattle.opl_read.specs.declared.line_faults.FaultKind.{FaultKind}
use Rattle.opl_read.specs.declared.line_faults.FaultKind.TheVariants.{BadEscape}

-- 1 to 6 hexadecimal digits
abbrev pub is_hex : List ℕ → Bool
is_hex digits = not (length digits == 0) && nat_le (length digits) 6 && list_all (λ b. is_ascii_hexdigit b) digits

-- the character whose number these digits write, a Unicode scalar value
abbrev pub character_of : List ℕ → Option ℕ
character_of digits = if is_hex digits && scalar (digits_value 16 digits) then Some (digits_value 16 digits) else None

-- a text, a character behind it, and what is behind both
abbrev pub with_character : List ℕ → Option ℕ → Result (List ℕ) FaultKind → Result (List ℕ) FaultKind
with_character before None behind = Err BadEscape
with_character before (Some character) behind = mapped (λ text. before ++ encode_utf8 character ++ text) behind

-- what stands between the `%` is text and the digits of an escape in turn, and text at the end
abbrev pub text_of_pieces : List (List ℕ) → Result (List ℕ) FaultKind
text_of_pieces [] = Err BadEscape
text_of_pieces (text ∷ []) = Ok text
text_of_pieces (text ∷ digits ∷ more) = with_character text (character_of digits) (text_of_pieces more)

-- what a key, a value or a role stands for
abbrev pub unescaped : List ℕ → Result (List ℕ) FaultKind
unescaped written = text_of_pieces (slice_split (λ b. b == byte "%") written)
