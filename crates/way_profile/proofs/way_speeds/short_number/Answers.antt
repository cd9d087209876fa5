-- What `parse` gives for one to three digits.
use Rattle.std.proofs.Common.{◌≡◌, ℕ, Option, Some, true, false, ◌<◌, ◌==◌, length, sym, ap, ◌∙◌, subst, rules}
use Rattle.std.specs.Char.{is_ascii_digit}
use Rattle.std.specs.List.{list_all}
use Rattle.std.specs.Prelude.{IfSome}
use Rattle.std.specs.Result.{result_ok}
use Rattle.std.specs.Str.Parse.{digits_value}
use Rattle.way_profile.specs.WayRule.{is_short_number}
use Rattle.way_profile.proofs.Limits.{is_short_number-of, short-below, short-parsed, short-told}
use Rattle.way_profile.proofs.way_speeds.short_number.Goals as goal

pub returns-clause-value : goal.returns-clause-value
returns-clause-value c =
    let text = c.args.text.now in
    let some : (length text == 0) ≡ false = search rules in
    let digits : list_all is_ascii_digit text ≡ true = search rules in
    let short : is_short_number text ≡ true = is_short_number-of text some c.if-text-gt-MOST_DIGITS.false digits in
    c.ok.ensures.value ∙ ap result_ok (short-parsed text short c.parse.result c.parse.ensures.value.0) ∙ sym (short-told text short)

pub returns-clause-range : goal.returns-clause-range
returns-clause-range c =
    let text = c.args.text.now in
    let some : (length text == 0) ≡ false = search rules in
    let digits : list_all is_ascii_digit text ≡ true = search rules in
    let short : is_short_number text ≡ true = is_short_number-of text some c.if-text-gt-MOST_DIGITS.false digits in
    let told : c.ok.result ≡ Some (digits_value 10 text) = c.ok.ensures.value ∙ ap result_ok (short-parsed text short c.parse.result c.parse.ensures.value.0) in
    subst (λ (o : Option ℕ). IfSome o (λ number. number < 1000)) (sym told) (short-below text short)
