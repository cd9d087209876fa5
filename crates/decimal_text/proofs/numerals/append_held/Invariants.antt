-- The digits that are left, behind those so far, make the same number within the limit.
use Rattle.std.proofs.Common.{◌≡◌, ◌≤◌, min, drop}
use Rattle.std.specs.Str.Parse.{digits_value_after}
use Rattle.decimal_text.proofs.numerals.append_held.Given as goal

abbrev pub invariant-loop-digit : goal.invariant-loop-digit
invariant-loop-digit l = record {
  within : l.number ≤ l.limit;
  rest : min (digits_value_after 10 l.number (drop l.digit-index l.digits)) l.limit ≡ min (digits_value_after 10 l.fn.number l.digits) l.limit;
}
