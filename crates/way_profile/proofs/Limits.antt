-- Numbers in speed limits, and speeds under a factor.
use Rattle.std.proofs.Common.{◌≡◌, ℕ, ◌<◌, ◌≤◌, Bool, true, false, not, ◌&&◌, ◌==◌, nat_le, cond, List, [], ◌∷◌, length, Some, None, Result, Ok, refl, ap, arith, rules}
use Rattle.std.specs.Char.{is_ascii_digit}
use Rattle.std.specs.List.{list_all}
use Rattle.std.specs.Str.Parse.{digits_value, ParsesUnsigned}
use Rattle.std.proofs.lemmas.Bool.{and_parts, le-leb, leb-true}
use Rattle.std.proofs.lemmas.Str.Parse.{IsNumeralModel, numerals_by_value, parse_gives, digits_value_short}
use Rattle.way_profile.specs.WayRule.{is_short_number}

own : IsNumeralModel (λ ds. list_all is_ascii_digit ds ≡ true) (digits_value 10)
own = numerals_by_value _ (search rules)

some_digit : (text : List ℕ) → not (length text == 0) ≡ true → 0 < length text
some_digit [] h = cc
some_digit (x ∷ xs) h = omega arith

all_true : (a b c : Bool) → a ≡ false → b ≡ true → c ≡ true → not a && b && c ≡ true
all_true false true true h i j = refl
all_true false true false h i j = cc
all_true false false c h i j = cc
all_true true b c h i j = cc

pub is_short_number-of : (text : List ℕ) → (length text == 0) ≡ false → length text ≤ 3 → list_all is_ascii_digit text ≡ true → is_short_number text ≡ true
is_short_number-of text some few digits = all_true (length text == 0) (nat_le (length text) 3) (list_all is_ascii_digit text) some (le-leb (length text) 3 few) digits

-- a number of up to three digits is below a thousand, and `parse` gives it
module _ (text : List ℕ) (short : is_short_number text ≡ true) where
  pub short-below : digits_value 10 text < 1000
  short-below =
      let (front, digits) = and_parts _ _ short in
      digits_value_short own text 3 digits (leb-true (length text) 3 (and_parts _ _ front).1)

  pub short-parsed : {E : Type 0} (r : Result ℕ E) → ParsesUnsigned 32 10 text r → r ≡ Ok (digits_value 10 text)
  short-parsed r h =
      let (front, digits) = and_parts _ _ short in
      let small : digits_value 10 text < 1000 = short-below in
      parse_gives own 32 text r h digits (some_digit text (and_parts _ _ front).0) (omega arith)

  pub short-told : cond (is_short_number text) (Some (digits_value 10 text)) None ≡ Some (digits_value 10 text)
  short-told = ap (λ (b : Bool). cond b (Some (digits_value 10 text)) None) short
