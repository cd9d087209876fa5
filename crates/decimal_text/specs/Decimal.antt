-- Decimals and their value in whole millionths. A decimal is an optional `-`, one or more digits, and
-- optionally a point and one or more digits (OPL coordinates; the rounding is this project's rule).
use Rattle.std.specs.Prelude.{◌≡◌, true, ℕ, ℤ, ◌+◌, ◌≤◌, ◌↔◌, unsigned_abs, Bool, ◌&&◌, ◌||◌, ◌==◌, List, ◌++◌, take, drop, length, ◌<◌, min, codes, slice_index, nat_le, is_none, position, Option, Some, None, if◌then◌else◌}
use Rattle.std.specs.Char.{is_ascii_digit}
use Rattle.std.specs.List.{before_first, after_first, list_all}
use Rattle.std.specs.Str.Parse.{digits_value}
use Rattle.decimal_text.specs.Numeral.{is_numeral, without_minus, signed_as}

abbrev pub is_point : ℕ → Bool
is_point b = b == 46

-- what stands before the point, or all where there is no point
abbrev pub before_point : List ℕ → List ℕ
before_point text = before_first is_point text

-- what stands after the point, nothing where there is no point
abbrev pub after_point : List ℕ → List ℕ
after_point text = after_first is_point text

-- a numeral, or two numerals with a point between
abbrev pub is_unsigned_decimal : List ℕ → Bool
is_unsigned_decimal text =
    is_numeral (before_point text) && (is_none (position is_point text) || is_numeral (after_point text))

-- the digits before a point and this many after it, at most six, absent ones being 0
abbrev pub kept_digits : ℕ → List ℕ → List ℕ → List ℕ
kept_digits kept whole fraction = whole ++ take kept (fraction ++ codes "000000")

-- the number that a decimal's digits make with this many kept after the point, at most six
abbrev pub scaled : ℕ → List ℕ → ℕ
scaled kept text = digits_value 10 (kept_digits kept (before_point text) (after_point text))

-- a decimal without a sign as such a number, held within a limit
abbrev pub scaled_within : ℕ → ℕ → List ℕ → Option ℕ
scaled_within kept limit text = if is_unsigned_decimal text then Some (min (scaled kept text) limit) else None

-- one more millionth where the seventh digit after the point is 5 or more
abbrev pub rounding : List ℕ → ℕ
rounding fraction = if nat_le 53 (slice_index fraction 6) then 1 else 0

-- how many millionths the digits before and after a point make; digits behind the seventh count for nothing
abbrev pub millionths : List ℕ → List ℕ → ℕ
millionths whole fraction = digits_value 10 (kept_digits 6 whole fraction) + rounding fraction

-- decimals of more than so many millionths either way are told as this many
abbrev pub farthest : ℕ
farthest = 1000000000000

-- how far from zero a decimal without its sign is, in whole millionths
abbrev pub exact_magnitude : List ℕ → ℕ
exact_magnitude text = millionths (before_point text) (after_point text)

-- how far from zero it is told
abbrev pub magnitude_of : List ℕ → ℕ
magnitude_of text = min (exact_magnitude text) farthest

-- what is told of a decimal lies within a range on Earth, which reaches to 180 degrees either way at most,
-- exactly where the decimal itself does
abbrev pub TellsRanges : List ℕ → ℤ → Type 0
TellsRanges text told =
    (greatest : ℕ) → greatest ≤ 180000000 → (unsigned_abs told ≤ greatest) ↔ (exact_magnitude (without_minus text) ≤ greatest)

-- the decimal in whole millionths; None where the text is no decimal
unfoldable pub microdegrees_of : List ℕ → Option ℤ
microdegrees_of text =
    if is_unsigned_decimal (without_minus text) then Some (signed_as text (magnitude_of (without_minus text))) else None

-- the parts of a decimal without its sign: digits before and after its point
pub record ArePartsOf (text whole fraction : List ℕ) : Type 0 where
  pub decimal : is_unsigned_decimal text ≡ true
  pub before : whole ≡ before_point text
  pub after : fraction ≡ after_point text
  pub whole_digits : list_all (λ b. is_ascii_digit b) whole ≡ true
  pub fraction_digits : list_all (λ b. is_ascii_digit b) fraction ≡ true

-- the parts of a text round the point that stands before its last six or seven bytes
pub record AreUsualParts (text whole fraction : List ℕ) : Type 0 where
  pub before : whole ≡ take (length whole) text
  pub point : slice_index text (length whole) ≡ 46
  pub after : fraction ≡ drop (length whole + 1) text
  pub within : length whole < length text
  pub some : 0 < length whole
  pub few : length whole ≤ 13
  pub at_least_six : 6 ≤ length fraction
  pub at_most_seven : length fraction ≤ 7
