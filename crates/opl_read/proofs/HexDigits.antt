-- Hexadecimal digits as `from_str_radix` reads them.
use Rattle.std.proofs.Common.{◌≡◌, ℕ, ◌^◌, ◌<◌, ◌≤◌, true, eqb, List, [], ◌∷◌, length, get_or, sym, arith, leb, not, ◌&&◌, subst, lit<}
use Rattle.std.specs.Char.{digit_value, is_ascii_hexdigit}
use Rattle.std.specs.List.{list_all}
use Rattle.std.specs.Str.Parse.{AllDigits, IsNumeral, digits_value, without_leading_plus}
use Rattle.std.proofs.Math.Nat.{pow-le-pow_right}
use Rattle.std.proofs.lemmas.Bool.{and_parts, leb-true}
use Rattle.std.proofs.lemmas.Bool.Decides.{nat_tests}
use Rattle.std.proofs.lemmas.Int.Digits.{digits_value-lt}
use Rattle.std.proofs.lemmas.Str.Parse.{without_leading_plus_none}
use Rattle.opl_read.specs.Escapes.{is_hex}

digit_value-hex : (c : ℕ) → is_ascii_hexdigit c ≡ true → digit_value c < 16
digit_value-hex c h = grind (arith, nat_tests)

hex_is_no_plus : (c : ℕ) → is_ascii_hexdigit c ≡ true → c ≡ 43 → ⊥
hex_is_no_plus c h plus = grind (arith, nat_tests)

AllDigits-hex : (digits : List ℕ) → list_all (λ b. is_ascii_hexdigit b) digits ≡ true → AllDigits 16 digits
AllDigits-hex [] h = tt
AllDigits-hex (d ∷ digits) h =
    let (first, others) = and_parts (is_ascii_hexdigit d) (list_all (λ b. is_ascii_hexdigit b) digits) h in
    (digit_value-hex d first, AllDigits-hex digits others)

no_plus : (digits : List ℕ) → list_all (λ b. is_ascii_hexdigit b) digits ≡ true → get_or digits 0 0 ≡ 43 → ⊥
no_plus [] h plus = cc
no_plus (d ∷ digits) h plus = hex_is_no_plus d (and_parts (is_ascii_hexdigit d) (list_all (λ b. is_ascii_hexdigit b) digits) h).0 plus

are_hex : (digits : List ℕ) → is_hex digits ≡ true → (0 < length digits) × (length digits ≤ 6) × (list_all (λ b. is_ascii_hexdigit b) digits ≡ true)
are_hex digits h =
    let (sized, hex) = and_parts (not (eqb (length digits) 0) && leb (length digits) 6) (list_all (λ b. is_ascii_hexdigit b) digits) h in
    let (some, few) = and_parts (not (eqb (length digits) 0)) (leb (length digits) 6) sized in
    (grind (arith, nat_tests), leb-true _ _ few, hex)

-- no sign stands before hexadecimal digits
pub plain-hex : (digits : List ℕ) → is_hex digits ≡ true → without_leading_plus digits ≡ digits
plain-hex digits h = without_leading_plus_none digits (no_plus digits (are_hex digits h).2)

fits-hex : (digits : List ℕ) → is_hex digits ≡ true → digits_value 16 digits < 2 ^ 32
fits-hex digits h =
    let (some, few, hex) = are_hex digits h in
    let below = digits_value-lt 16 digits (AllDigits-hex digits hex) in
    let most : 16 ^ length digits ≤ 16 ^ 6 = pow-le-pow_right {n = 16} (lit< tt) few in
    let limit : 16 ^ 6 < 2 ^ 32 = lit< tt in
    omega (arith, below, most, limit)

-- and six of them are always read
pub read-hex : (digits : List ℕ) → is_hex digits ≡ true
    → IsNumeral 16 (without_leading_plus digits) × (digits_value 16 (without_leading_plus digits) < 2 ^ 32)
read-hex digits h =
    let (some, few, hex) = are_hex digits h in
    subst (λ (ds : List ℕ). IsNumeral 16 ds × (digits_value 16 ds < 2 ^ 32)) (sym (plain-hex digits h)) ((some, AllDigits-hex digits hex), fits-hex digits h)
