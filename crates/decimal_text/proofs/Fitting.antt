-- Digits behind others where the number that they make is one of 64 bits.
use Rattle.std.proofs.Common.{◌≡◌, ℕ, suc, ◌+◌, ◌*◌, ◌≤◌, ◌<◌, ◌^◌, List, [], ◌∷◌, true, length, get_or, drop, arith, mul_assoc, mul-le-mul_right, mul-le-mul_left}
use Rattle.std.proofs.Math.Nat.{pow-succ', pow-le-pow_right}
use Rattle.std.specs.Char.{is_ascii_digit, digit_value}
use Rattle.std.specs.List.{list_all}
use Rattle.std.specs.Str.Parse.{digits_value_after}
use Rattle.std.proofs.lemmas.Bool.{and_parts}
use Rattle.decimal_text.proofs.Appending.{digit_value-digit, digits_value_after-drop}

-- digits behind a number make it no smaller
digits_value_after-ge : (n : ℕ) (ds : List ℕ) → n ≤ digits_value_after 10 n ds
digits_value_after-ge n [] = omega arith
digits_value_after-ge n (d ∷ ds) = omega (arith, digits_value_after-ge (n * 10 + digit_value d) ds)

-- the number stays below the next greater one with as many zeros behind it
pub below_next : (n : ℕ) (ds : List ℕ) → list_all (λ b. is_ascii_digit b) ds ≡ true → digits_value_after 10 n ds + 1 ≤ (n + 1) * 10 ^ length ds
below_next n [] h = omega arith
below_next n (d ∷ ds) h =
    let parts = and_parts _ _ h in
    let value = digit_value-digit d parts.0 in
    let next = n * 10 + digit_value d in
    let tenfold : next + 1 ≤ (n + 1) * 10 = omega arith in
    let more : (next + 1) * 10 ^ length ds ≤ (n + 1) * 10 * 10 ^ length ds = mul-le-mul_right (10 ^ length ds) tenfold in
    let same : (n + 1) * 10 * 10 ^ length ds ≡ (n + 1) * 10 ^ suc (length ds) = rw pow-succ' (mul_assoc (n + 1) 10 (10 ^ length ds)) in
    omega (arith, below_next next ds parts.1)

-- no more digits than there is room for make a number of 64 bits
pub room_is_enough : (n room : ℕ) (ds : List ℕ) → list_all (λ b. is_ascii_digit b) ds ≡ true → (n + 1) * 10 ^ room ≤ 2 ^ 64 → length ds ≤ room → digits_value_after 10 n ds < 2 ^ 64
room_is_enough n room ds good enough few =
    let power : 10 ^ length ds ≤ 10 ^ room = pow-le-pow_right (omega arith) few in
    let more : (n + 1) * 10 ^ length ds ≤ (n + 1) * 10 ^ room = mul-le-mul_left (n + 1) power in
    omega (arith, below_next n ds good)

-- where all the digits make a number of 64 bits, one of them does
pub one_more_fits : (n i total : ℕ) (ds : List ℕ) → i < length ds → digits_value_after 10 n (drop i ds) ≡ total → total < 2 ^ 64 → n * 10 + digit_value (get_or ds i 0) < 2 ^ 64
one_more_fits n i total ds lt same fits = omega (arith, digits_value_after-drop n i ds lt, digits_value_after-ge (n * 10 + digit_value (get_or ds i 0)) (drop (i + 1) ds))
