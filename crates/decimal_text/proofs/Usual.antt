-- Decimals with six or seven bytes behind a point.
use Rattle.std.proofs.Common.{◌≡◌, ℕ, ◌+◌, ◌*◌, ◌≤◌, ◌<◌, ◌^◌, min, Bool, true, false, not, cond, List, [], ◌∷◌, ◌++◌, length, take, get_or, refl, sym, ◌∙◌, ap, ap₂, subst, Some, None, inl, inr, arith, codes, take_all, position, length-take}
use Rattle.std.specs.Prelude.{nat_le}
use Rattle.std.specs.Char.{is_ascii_digit, digit_value}
use Rattle.std.specs.List.{list_all, position_or_len}
use Rattle.std.specs.Str.Parse.{digits_value_after}
use Rattle.std.proofs.lemmas.Bool.{and_from, lt-ltb, ne_eqb, eq-eqb, cases_lt}
use Rattle.std.proofs.lemmas.List.{take_more, get_or-take, take-append-le}
use Rattle.std.proofs.lemmas.List.Folds.{list_all-append}
use Rattle.std.proofs.lemmas.List.Sums.{position_or_len_is}
use Rattle.decimal_text.specs.Numeral.{is_numeral}
use Rattle.decimal_text.specs.Decimal.{is_point, millionths, rounding, farthest, magnitude_of, ArePartsOf, AreUsualParts}
use Rattle.decimal_text.proofs.Appending.{digits_value_after-append, digit_value-digit, digit_of}
use Rattle.decimal_text.proofs.Fitting.{below_next, room_is_enough}
use Rattle.decimal_text.proofs.Parts.{parts_of_two}

-- one more digit behind those so far
pub one_more_digit : (ds : List ℕ) (i : ℕ) → i < length ds → list_all (λ b. is_ascii_digit b) (take i ds) ≡ true → is_ascii_digit (get_or ds i 0) ≡ true → list_all (λ b. is_ascii_digit b) (take (i + 1) ds) ≡ true
one_more_digit ds i lt good digit =
    ap (list_all (λ b. is_ascii_digit b)) (take_more ds i 0 lt)
    ∙ list_all-append (λ b. is_ascii_digit b) (take i ds) (get_or ds i 0 ∷ [])
    ∙ and_from _ _ good (and_from _ _ digit refl)

pub one_more_value : (n i : ℕ) (ds : List ℕ) → i < length ds → digits_value_after 10 n (take (i + 1) ds) ≡ digits_value_after 10 n (take i ds) * 10 + digit_value (get_or ds i 0)
one_more_value n i ds lt = ap (digits_value_after 10 n) (take_more ds i 0 lt) ∙ digits_value_after-append n (take i ds) (get_or ds i 0 ∷ [])

-- and the number that it makes is one of 64 bits
pub next_fits : (n i number : ℕ) (ds : List ℕ) → i < length ds → number ≡ digits_value_after 10 n (take i ds) → list_all (λ b. is_ascii_digit b) (take i ds) ≡ true
    → is_ascii_digit (get_or ds i 0) ≡ true → (n + 1) * 10 ^ length ds ≤ 2 ^ 64 → number * 10 + digit_value (get_or ds i 0) < 2 ^ 64
next_fits n i number ds lt same good digit enough =
    let few : length (take (i + 1) ds) ≤ length ds = omega (arith, length-take (i + 1) ds) in
    omega (arith, room_is_enough n (length ds) (take (i + 1) ds) (one_more_digit ds i lt good digit) enough few, one_more_value n i ds lt)

pub fraction_digits : (fraction : List ℕ) → length fraction ≤ 7 → list_all (λ b. is_ascii_digit b) (take 6 fraction) ≡ true
    → (6 < length fraction → is_ascii_digit (get_or fraction 6 0) ≡ true) → list_all (λ b. is_ascii_digit b) fraction ≡ true
fraction_digits fraction most six seventh = elim (cases_lt 6 (length fraction)) [
  | inl long ↦ ap (list_all (λ b. is_ascii_digit b)) (sym (take_all 7 fraction most)) ∙ one_more_digit fraction 6 long six (seventh long)
  | inr short ↦ ap (list_all (λ b. is_ascii_digit b)) (sym (take_all 6 fraction short)) ∙ six
]

numeral_from : (ds : List ℕ) → 0 < length ds → list_all (λ b. is_ascii_digit b) ds ≡ true → is_numeral ds ≡ true
numeral_from ds some good = and_from _ _ (ap not (ne_eqb (length ds) 0 (λ e. omega arith))) good

no_point : (d : ℕ) → is_ascii_digit d ≡ true → is_point d ≡ false
no_point d h = let value = digit_value-digit d h in ne_eqb d 46 (λ e. omega arith)

module _ (text whole fraction : List ℕ) (parts : AreUsualParts text whole fraction) (whole_digits : list_all (λ b. is_ascii_digit b) whole ≡ true) where
  before_is : (k : ℕ) → k < length whole → is_point (get_or text k 0) ≡ false
  before_is k lt =
      let same : get_or whole k 0 ≡ get_or text k 0 = ap (λ l. get_or l k 0) parts.before ∙ get_or-take (length whole) text k 0 lt in
      ap is_point (sym same) ∙ no_point (get_or whole k 0) (digit_of whole k whole_digits lt)

  -- the first point stands behind the digits before it
  point_is : position is_point text ≡ Some (length whole)
  point_is =
      let within : length whole < length text = parts.within in
      let is : position_or_len is_point text ≡ length whole = position_or_len_is is_point text (length whole) 0 (omega arith) before_is (λ _. eq-eqb (get_or text (length whole) 0) 46 parts.point) in
      ap (λ t. cond t (Some (position_or_len is_point text)) None) (lt-ltb (position_or_len is_point text) (length text) (omega arith)) ∙ ap Some is

  pub usual_decimal : list_all (λ b. is_ascii_digit b) fraction ≡ true → ArePartsOf text whole fraction
  usual_decimal good =
      let some : 0 < length fraction = (let six = parts.at_least_six in omega arith) in
      let found = parts_of_two text (length whole) point_is (ap is_numeral (sym parts.before) ∙ numeral_from whole parts.some whole_digits) (ap is_numeral (sym parts.after) ∙ numeral_from fraction some good) in
      record {
        decimal = found.decimal;
        before = parts.before ∙ found.before;
        after = parts.after ∙ found.after;
        whole_digits = whole_digits;
        fraction_digits = good;
      }

at_most_one : (b : Bool) → cond b 1 0 ≤ 1
at_most_one true = omega arith
at_most_one false = omega arith

-- the digits before the point and six behind it, rounded by the seventh, are how far from zero it is told
pub usual_value : (text whole fraction : List ℕ) (units n : ℕ) → ArePartsOf text whole fraction → 6 ≤ length fraction → list_all (λ b. is_ascii_digit b) (take 6 fraction) ≡ true
    → units ≡ digits_value_after 10 0 whole → units < 1000000 → n ≡ digits_value_after 10 units (take 6 fraction) → n + rounding fraction ≡ magnitude_of text
usual_value text whole fraction units n parts six good eu near en =
    let kept : take 6 (fraction ++ codes "000000") ≡ take 6 fraction = take-append-le 6 fraction (codes "000000") six in
    let all : digits_value_after 10 0 (whole ++ take 6 (fraction ++ codes "000000")) ≡ n =
    ap (λ ds. digits_value_after 10 0 (whole ++ ds)) kept ∙ digits_value_after-append 0 whole (take 6 fraction) ∙ ap (λ u. digits_value_after 10 u (take 6 fraction)) (sym eu) ∙ sym en in
    let length_six : length (take 6 fraction) ≡ 6 = omega (arith, length-take 6 fraction) in
    let below : n + 1 ≤ (units + 1) * 10 ^ 6 = subst (λ (k : ℕ). n + 1 ≤ (units + 1) * 10 ^ k) length_six (subst (λ (v : ℕ). v + 1 ≤ (units + 1) * 10 ^ length (take 6 fraction)) (sym en) (below_next units (take 6 fraction) good)) in
    let small : rounding fraction ≤ 1 = at_most_one (nat_le 53 (get_or fraction 6 0)) in
    let whole_is : n + rounding fraction ≡ min (n + rounding fraction) farthest = omega arith in
    whole_is ∙ ap (λ v. min (v + rounding fraction) farthest) (sym all) ∙ ap₂ (λ a b. min (millionths a b) farthest) parts.before parts.after
