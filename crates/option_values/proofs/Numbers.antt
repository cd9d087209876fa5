-- Digits whose number fits 32 bits.
use Rattle.std.proofs.Common.{◌≡◌, ℕ, ◌≤◌, Bool, true, false, ◌&&◌, cond, leb, List, length, Some, None, refl, sym, ◌∙◌, ap, arith, rules}
use Rattle.std.specs.Char.{is_ascii_digit}
use Rattle.std.specs.List.{list_all}
use Rattle.std.specs.Str.Parse.{digits_value}
use Rattle.std.proofs.lemmas.Bool.{le-leb, and_parts}
use Rattle.std.proofs.lemmas.Str.Parse.{IsNumeralModel, numerals_by_value, digits_value_short}
use Rattle.decimal_text.specs.Numeral.{is_numeral}
use Rattle.option_values.specs.Values.{short_number_of, since_of}

own : IsNumeralModel (λ ds. list_all (λ b. is_ascii_digit b) ds ≡ true) (digits_value 10)
own = numerals_by_value _ (search rules)

short_case : (text : List ℕ) (numeral : Bool) → is_numeral text ≡ numeral → length text ≤ 9
    → cond (numeral && leb (digits_value 10 text) 4294967295) (Some (digits_value 10 text)) None ≡ cond (numeral && leb (length text) 9) (Some (digits_value 10 text)) None
short_case text false h short = refl
short_case text true h short =
    let small = digits_value_short own text 9 (and_parts _ _ h).1 short in
    ap (λ b. cond b (Some (digits_value 10 text)) None) (le-leb (digits_value 10 text) 4294967295 (omega arith))
    ∙ sym (ap (λ b. cond b (Some (digits_value 10 text)) None) (le-leb (length text) 9 short))

-- nine digits make no number above 32 bits
pub short_number_of-since : (text : List ℕ) → length text ≤ 9 → since_of text ≡ short_number_of text
short_number_of-since text short = short_case text (is_numeral text) refl short
