-- What is told of a decimal lies in a range on Earth where the decimal does.
use Rattle.std.proofs.Common.{◌≡◌, ℕ, ℤ, zero, suc, Some, None, ◌≤◌, Bool, true, false, List, min, cond, refl, subst, sym, arith}
use Rattle.std.specs.Prelude.{◌↔◌, unsigned_abs, pos, neg_ℤ}
use Rattle.std.proofs.lemmas.Option.{same_Some}
use Rattle.std.specs.Str.Parse.{starts_with_minus}
use Rattle.decimal_text.specs.Numeral.{signed_as, without_minus}
use Rattle.decimal_text.specs.Decimal.{TellsRanges, microdegrees_of, is_unsigned_decimal, exact_magnitude, magnitude_of, farthest}

unsigned_abs-signed : (b : Bool) (n : ℕ) → unsigned_abs (cond b (neg_ℤ (pos n)) (pos n)) ≡ n
unsigned_abs-signed true zero = refl
unsigned_abs-signed true (suc n) = refl
unsigned_abs-signed false n = refl

within : (n greatest : ℕ) → greatest ≤ 180000000 → (min n farthest ≤ greatest) ↔ (n ≤ greatest)
within n greatest small = (λ h. omega arith, λ h. omega arith)

signed-TellsRanges : (text : List ℕ) → TellsRanges text (signed_as text (magnitude_of (without_minus text)))
signed-TellsRanges text greatest small =
    subst (λ (n : ℕ). (n ≤ greatest) ↔ (exact_magnitude (without_minus text) ≤ greatest)) (sym (unsigned_abs-signed (starts_with_minus text) (magnitude_of (without_minus text))))
    (within (exact_magnitude (without_minus text)) greatest small)

told_case : (b : Bool) (text : List ℕ) (told : ℤ) → Some told ≡ cond b (Some (signed_as text (magnitude_of (without_minus text)))) None → TellsRanges text told
told_case true text told e = subst (λ (z : ℤ). TellsRanges text z) (sym (same_Some told (signed_as text (magnitude_of (without_minus text))) e)) (signed-TellsRanges text)
told_case false text told e = cc

pub microdegrees_of-TellsRanges : (text : List ℕ) (told : ℤ) → Some told ≡ microdegrees_of text → TellsRanges text told
unfolding microdegrees_of
microdegrees_of-TellsRanges text told e = told_case (is_unsigned_decimal (without_minus text)) text told e
