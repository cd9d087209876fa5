-- One more digit keeps the number within the limit.
use Rattle.std.proofs.Common.{◌≡◌, ◌+◌, ◌*◌, min, get_or, arith, ap, sym, ◌∙◌, drop}
use Rattle.std.specs.Char.{digit_value}
use Rattle.std.specs.Str.Parse.{digits_value_after}
use Rattle.decimal_text.proofs.Appending.{digit_of, digit_value-digit, digits_value_after-drop, digits_value_after-min, one_turn}
use Rattle.decimal_text.proofs.numerals.append_held.Goals as goal

pub loop-digit-preserved : goal.loop-digit-preserved
loop-digit-preserved c =
    let i = c.loop-digit.digit-index in
    let n = c.loop-digit.number in
    let ds = c.args.digits.now in
    let limit = c.args.limit in
    let d = get_or ds i 0 in
    let value = digit_value-digit d (digit_of ds i c.requires.are_digits c.loop-digit-test.true) in
    let next : c.min-number.result ≡ min (n * 10 + digit_value d) limit =
    one_turn n d (digit_value d) limit c.saturating_mul.result c.saturating_add.result c.min-number.result value.2 c.ranges.limit.fits c.saturating_mul.ensures (rw (← c.from-more.ensures) c.saturating_add.ensures) c.min-number.ensures
    in
    record {
      within = omega arith;
      rest = ap (λ m. min (digits_value_after 10 m (drop (i + 1) ds)) limit) next
          ∙ digits_value_after-min (n * 10 + digit_value d) limit (drop (i + 1) ds)
          ∙ ap (λ m. min m limit) (sym (digits_value_after-drop n i ds c.loop-digit-test.true))
          ∙ c.loop-digit.invariant.rest;
    }
