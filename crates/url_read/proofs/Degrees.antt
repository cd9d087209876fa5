-- Coordinates that lack a decimal.
use Rattle.std.proofs.Common.{◌≡◌, ℕ, ℤ, eqb, List, [], Option, Some, None, refl, sym, ◌∙◌, ap}
use Rattle.std.specs.List.{before_first}
use Rattle.decimal_text.specs.Decimal.{microdegrees_of}
use Rattle.url_read.specs.Coordinates.{degrees_of, pair_of}
use Rattle.option_values.specs.Cutting.{IsUncut}

pair_of-no_second : (lon : Option ℤ) → pair_of lon None ≡ None
pair_of-no_second None = refl
pair_of-no_second (Some lon) = refl

no_decimal : microdegrees_of [] ≡ None
unfolding microdegrees_of
no_decimal = refl

-- a text without a comma is no coordinate
pub degrees_of-uncut : (text : List ℕ) → IsUncut 44 text → degrees_of text ≡ None
degrees_of-uncut text uncut =
    let lon = microdegrees_of (before_first (λ b. eqb b 44) text) in
    ap (λ behind. pair_of lon (microdegrees_of behind)) (sym uncut.rest)
    ∙ ap (pair_of lon) no_decimal
    ∙ pair_of-no_second lon
