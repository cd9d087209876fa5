-- The texts of numbers with a fixed count of decimals (JSON numbers of RFC 8259, section 6; how
-- many decimals they have is this project's rule).
use Rattle.std.specs.Prelude.{ℕ, ℤ, pos, negsuc, ◌+◌, ◌/◌, ◌%◌, List, [], ◌∷◌, ◌++◌, unsigned_abs}
use Rattle.std.specs.Fmt.{decimal}

-- so many tenths, with one decimal
abbrev pub tenths_text : ℕ → List ℕ
tenths_text n = decimal (n / 10) ++ 46 ∷ (48 + n % 10) ∷ []

-- `-` before a number below 0
abbrev pub sign_text : ℤ → List ℕ
sign_text (pos n) = []
sign_text (negsuc n) = 45 ∷ []

-- the last six digits of n, zeros among them
abbrev pub six_digits : ℕ → List ℕ
six_digits n =
    (48 + n / 100000 % 10) ∷ (48 + n / 10000 % 10) ∷ (48 + n / 1000 % 10)
    ∷ (48 + n / 100 % 10) ∷ (48 + n / 10 % 10) ∷ (48 + n % 10) ∷ []

-- so many millionths, with six decimals
abbrev pub millionths_text : ℤ → List ℕ
millionths_text z =
    sign_text z ++ decimal (unsigned_abs z / 1000000) ++ 46 ∷ six_digits (unsigned_abs z)
