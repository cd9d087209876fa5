-- Two numerals round the point are a decimal, whose value is held within the farthest as it is.
use Rattle.std.proofs.Common.{◌≡◌, ◌+◌, true, take, refl, sym, ap, ◌∙◌, arith}
use Rattle.std.specs.Char.{is_ascii_digit}
use Rattle.std.specs.List.{list_all}
use Rattle.std.specs.Str.Parse.{digits_value_after}
use Rattle.decimal_text.specs.Decimal.{rounding, magnitude_of}
use Rattle.decimal_text.proofs.Usual.{fraction_digits, usual_decimal, usual_value}
use Rattle.decimal_text.proofs.usual_decimals.usual_magnitude.Goals as goal

pub overflow_add-result : goal.overflow_add-result
overflow_add-result c =
    let whole = c.in_ok-whole.whole.now in
    let fraction = c.in_ok-whole.fraction.now in
    let parts = c.in_ok-whole.ensures in
    let six : list_all (λ b. is_ascii_digit b) (take 6 fraction) ≡ true = ap (list_all (λ b. is_ascii_digit b)) (sym c.split_at.ensures.front) ∙ c.in_ok-millionths.ensures.digits in
    let good = fraction_digits fraction parts.at_most_seven six (c.if-not-has_seventh_digit.ensures refl) in
    let value : c.in_ok-millionths.millionths + rounding fraction ≡ magnitude_of c.args.text.now =
    usual_value c.args.text.now whole fraction c.in_ok-units.units c.in_ok-millionths.millionths (usual_decimal c.args.text.now whole fraction parts c.in_ok-units.ensures.digits good) parts.at_least_six six c.in_ok-units.ensures.value (omega arith)
    (c.in_ok-millionths.ensures.value ∙ ap (digits_value_after 10 c.in_ok-units.units) c.split_at.ensures.front) in
    omega (arith, value, c.seventh_rounding.ensures)

pub returns-clause-decimal : goal.returns-clause-decimal
returns-clause-decimal c =
    let whole = c.in_ok-whole.whole.now in
    let fraction = c.in_ok-whole.fraction.now in
    let parts = c.in_ok-whole.ensures in
    let six : list_all (λ b. is_ascii_digit b) (take 6 fraction) ≡ true = ap (list_all (λ b. is_ascii_digit b)) (sym c.split_at.ensures.front) ∙ c.in_ok-millionths.ensures.digits in
    let good = fraction_digits fraction parts.at_most_seven six (c.if-not-has_seventh_digit.ensures refl) in
    (usual_decimal c.args.text.now whole fraction parts c.in_ok-units.ensures.digits good).decimal

pub returns-clause-value : goal.returns-clause-value
returns-clause-value c =
    let whole = c.in_ok-whole.whole.now in
    let fraction = c.in_ok-whole.fraction.now in
    let parts = c.in_ok-whole.ensures in
    let six : list_all (λ b. is_ascii_digit b) (take 6 fraction) ≡ true = ap (list_all (λ b. is_ascii_digit b)) (sym c.split_at.ensures.front) ∙ c.in_ok-millionths.ensures.digits in
    let good = fraction_digits fraction parts.at_most_seven six (c.if-not-has_seventh_digit.ensures refl) in
    let value : c.in_ok-millionths.millionths + rounding fraction ≡ magnitude_of c.args.text.now =
    usual_value c.args.text.now whole fraction c.in_ok-units.units c.in_ok-millionths.millionths (usual_decimal c.args.text.now whole fraction parts c.in_ok-units.ensures.digits good) parts.at_least_six six c.in_ok-units.ensures.value (omega arith)
    (c.in_ok-millionths.ensures.value ∙ ap (digits_value_after 10 c.in_ok-units.units) c.split_at.ensures.front) in
    ap (λ r. c.in_ok-millionths.millionths + r) c.seventh_rounding.ensures ∙ value
