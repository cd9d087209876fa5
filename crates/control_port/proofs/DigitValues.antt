-- Digits whose number fits 64 bits.
use Rattle.std.proofs.Common.{◌≡◌, ℕ, ◌≤◌, Bool, true, false, not, ◌&&◌, cond, leb, List, length, min, Some, None, refl, sym, ◌∙◌, ap, arith, rules}
use Rattle.std.specs.Char.{is_ascii_digit}
use Rattle.std.specs.List.{list_all}
use Rattle.std.specs.Str.Parse.{digits_value}
use Rattle.std.proofs.lemmas.Bool.{le-leb, and_parts}
use Rattle.std.proofs.lemmas.Str.Parse.{IsNumeralModel, numerals_by_value, digits_value_short}
use Rattle.decimal_text.specs.Numeral.{is_numeral, whole_within}
use Rattle.control_port.specs.Asking.{number_of}

own : IsNumeralModel (λ ds. list_all (λ b. is_ascii_digit b) ds ≡ true) (digits_value 10)
own = numerals_by_value _ (search rules)

number_case : (text : List ℕ) (numeral : Bool) → is_numeral text ≡ numeral → length text ≤ 18
    → cond numeral (Some (min (digits_value 10 text) 18446744073709551615)) None ≡ cond (numeral && leb (length text) 18) (Some (digits_value 10 text)) None
number_case text false h few = refl
number_case text true h few =
    let small = digits_value_short own text 18 (and_parts _ _ h).1 few in
    let held : min (digits_value 10 text) 18446744073709551615 ≡ digits_value 10 text = omega arith in
    ap Some held ∙ sym (ap (λ b. cond b (Some (digits_value 10 text)) None) (le-leb (length text) 18 few))

-- eighteen digits make no number above 64 bits
pub number_of_whole : (text : List ℕ) → length text ≤ 18 → whole_within 18446744073709551615 text ≡ number_of text
number_of_whole text few = number_case text (is_numeral text) refl few

-- what is chosen where a condition doesn't hold
pub else_of : {A : Type 0} → (b : Bool) (one other : A) → true ≡ not b → other ≡ cond b one other
else_of true one other h = cc
else_of false one other h = refl
