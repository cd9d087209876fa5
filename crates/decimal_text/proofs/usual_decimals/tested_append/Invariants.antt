-- The bytes so far are digits, and this is the number with them.
use Rattle.std.proofs.Common.{◌≡◌, true, take}
use Rattle.std.specs.Char.{is_ascii_digit}
use Rattle.std.specs.List.{list_all}
use Rattle.std.specs.Str.Parse.{digits_value_after}
use Rattle.decimal_text.proofs.usual_decimals.tested_append.Given as goal

abbrev pub invariant-loop-byte : goal.invariant-loop-byte
invariant-loop-byte l = record {
  digits : list_all (λ b. is_ascii_digit b) (take l.byte-index l.text) ≡ true;
  value : l.appended ≡ digits_value_after 10 l.number (take l.byte-index l.text);
}
