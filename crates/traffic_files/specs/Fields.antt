-- The fields of a record of a traffic file: blanks round a field do not belong to it (this project's rule).
use Rattle.std.specs.Prelude.{ℕ, ◌==◌, List, [], ◌∷◌, length, reverse, nat_le, Option, Some, None, Result, Ok, if◌then◌else◌}
use Rattle.std.specs.Result.{result_map_both}
use Rattle.csv.specs.Records.{field_at}
use Rattle.traffic_files.specs.declared.numbers.NumberFault.{NumberFault}

-- a text from its first byte that is no blank
abbrev pub skip_blanks : List ℕ → List ℕ
skip_blanks [] = []
skip_blanks (b ∷ rest) = if b == 32 then skip_blanks rest else b ∷ rest

unfoldable pub without_blanks : List ℕ → List ℕ
without_blanks text = reverse (skip_blanks (reverse (skip_blanks text)))

abbrev pub or_nothing : Option (List ℕ) → List ℕ
or_nothing (Some field) = without_blanks field
or_nothing None = []

-- the field at a place, counted from 0
abbrev pub text_at : List (List ℕ) → ℕ → List ℕ
text_at fields place = or_nothing (field_at fields place)

-- the number at a place that a record may end before; a field that is there has to be a number, also an empty one
abbrev pub optional_at : (List ℕ → Result ℕ NumberFault) → List (List ℕ) → ℕ → Result (Option ℕ) NumberFault
optional_at number_of fields place =
    if nat_le (length fields) place then Ok None else result_map_both Some (λ fault. fault) (number_of (text_at fields place))
