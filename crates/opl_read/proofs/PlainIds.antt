-- The text of an id has no `x`.
use Rattle.std.proofs.Common.{◌≡◌, ℕ, ℤ, ◌+◌, ◌-◌, ◌<◌, Bool, true, false, not, ◌&&◌, nat_le, eqb, cond, List, length, drop, get_or, refl, sym, ap, ◌∙◌, Some, inl, inr, arith, take_all, length-drop}
use Rattle.std.specs.Char.{is_ascii_digit}
use Rattle.std.specs.List.{list_all, position_or_len, before_first}
use Rattle.std.proofs.lemmas.Bool.{and_parts, eqb-true, cases_lt}
use Rattle.std.proofs.lemmas.Bool.Decides.{nat_tests}
use Rattle.std.proofs.lemmas.List.{get_or-drop}
use Rattle.std.proofs.lemmas.List.Recursion.{and_at}
use Rattle.std.proofs.lemmas.List.Sums.{position_or_len_is}
use Rattle.std.proofs.lemmas.Option.{cond_some}
use Rattle.std.specs.Str.Parse.{digits_value}
use Rattle.decimal_text.specs.Numeral.{is_numeral, signed_as, without_minus}
use Rattle.decimal_text.specs.ObjectId.{greatest_magnitude, id_of}

digit_is_no_x : (d : ℕ) → is_ascii_digit d ≡ true → eqb d 120 ≡ false
digit_is_no_x d h = grind (arith, nat_tests)

each_digit : (ds : List ℕ) (k : ℕ) → list_all (λ b. is_ascii_digit b) ds ≡ true → k < length ds → eqb (get_or ds k 0) 120 ≡ false
each_digit ds k h lt = digit_is_no_x (get_or ds k 0) (and_at (list_all (λ b. is_ascii_digit b)) (λ b. is_ascii_digit b) refl (λ _ _. refl) ds k 0 lt h)

behind_minus : (text : List ℕ) (k : ℕ) → eqb (get_or text 0 0) 45 ≡ true → list_all (λ b. is_ascii_digit b) (drop 1 text) ≡ true → k < length text → eqb (get_or text k 0) 120 ≡ false
behind_minus text k minus h lt = elim (cases_lt 0 k) [
  | inl later ↦
      let place : 1 + (k - 1) ≡ k = omega arith in
      ap (λ d. eqb d 120) (sym (get_or-drop 1 text (k - 1) 0 ∙ ap (λ n. get_or text n 0) place)) ∙ each_digit (drop 1 text) (k - 1) h (omega (arith, length-drop 1 text))
  | inr first ↦
      let is : k ≡ 0 = omega arith in
      let sign : get_or text 0 0 ≡ 45 = eqb-true _ _ minus in
      ap (λ n. eqb (get_or text n 0) 120) is ∙ ap (λ d. eqb d 120) sign
]

no_x : (text : List ℕ) (minus : Bool) (k : ℕ) → eqb (get_or text 0 0) 45 ≡ minus → list_all (λ b. is_ascii_digit b) (cond minus (drop 1 text) text) ≡ true → k < length text → eqb (get_or text k 0) 120 ≡ false
no_x text true k is h lt = behind_minus text k is h lt
no_x text false k is h lt = each_digit text k h lt

-- what stands before its first `x` is all of it
pub before_no_x : (text : List ℕ) (id : ℤ) → id_of text ≡ Some id → before_first (λ b. eqb b 120) text ≡ text
unfolding id_of
before_no_x text id h =
    let number = without_minus text in
    let short = nat_le (length number) 19 in
    let small = nat_le (digits_value 10 number) (greatest_magnitude text) in
    let all : ((is_numeral number && short) && small) ≡ true = (cond_some ((is_numeral number && short) && small) (signed_as text (digits_value 10 number)) id h).0 in
    let numeral : is_numeral number ≡ true = (and_parts (is_numeral number) short (and_parts (is_numeral number && short) small all).0).0 in
    let digits : list_all (λ b. is_ascii_digit b) number ≡ true = (and_parts (not (eqb (length number) 0)) (list_all (λ b. is_ascii_digit b) number) numeral).1 in
    let far : position_or_len (λ b. eqb b 120) text ≡ length text =
    position_or_len_is (λ b. eqb b 120) text (length text) 0 (omega arith) (λ k lt. no_x text (eqb (get_or text 0 0) 45) k refl digits lt) (λ lt. absurd (omega arith)) in
    take_all (position_or_len (λ b. eqb b 120) text) text (omega arith)
