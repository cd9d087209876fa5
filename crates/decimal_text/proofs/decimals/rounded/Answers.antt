-- One more for the seventh digit, held within the farthest.
use Rattle.std.proofs.Common.{◌+◌, min, ◌∙◌, ap₂}
use Rattle.std.specs.Str.Parse.{digits_value}
use Rattle.decimal_text.specs.Decimal.{farthest, kept_digits, rounding}
use Rattle.decimal_text.proofs.Appending.{rounded_within}
use Rattle.decimal_text.proofs.decimals.rounded.Goals as goal

pub returns : goal.returns
returns c =
    let whole = c.args.whole.now in
    let fraction = c.args.fraction.now in
    c.min.ensures
    ∙ ap₂ (λ n r. min (n + r) farthest) c.joined.ensures c.seventh_rounding.ensures
    ∙ rounded_within (digits_value 10 (kept_digits 6 whole fraction)) (rounding fraction) farthest
