-- The digits that are left, behind those so far, make the same number.
use Rattle.std.proofs.Common.{◌≡◌, drop}
use Rattle.std.specs.Str.Parse.{digits_value_after}
use Rattle.decimal_text.proofs.numerals.append_fitting.Given as goal

abbrev pub invariant-loop-digit : goal.invariant-loop-digit
invariant-loop-digit l = digits_value_after 10 l.number (drop l.digit-index l.digits) ≡ digits_value_after 10 l.fn.number l.digits
