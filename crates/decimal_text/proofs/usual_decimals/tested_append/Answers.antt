-- One more digit makes a number of 64 bits, whichever follow.
use Rattle.std.proofs.Common.{◌≡◌, get_or, true, sym, arith}
use Rattle.std.specs.Char.{is_ascii_digit}
use Rattle.decimal_text.proofs.Appending.{digit_value-digit}
use Rattle.decimal_text.proofs.Usual.{next_fits, one_more_digit, one_more_value}
use Rattle.decimal_text.proofs.usual_decimals.tested_append.Goals as goal

pub overflow_mul-appended : goal.overflow_mul-appended
overflow_mul-appended c =
    let i = c.loop-byte.byte-index in
    let ds = c.args.text.now in
    let digit : is_ascii_digit (get_or ds i 0) ≡ true = sym c.if-not-is_ascii_digit.ensures.value in
    let next = next_fits c.args.number i c.loop-byte.appended ds c.loop-byte-test.true c.loop-byte.invariant.value c.loop-byte.invariant.digits digit c.requires.fits in
    omega arith

pub overflow_add-appended : goal.overflow_add-appended
overflow_add-appended c =
    let i = c.loop-byte.byte-index in
    let ds = c.args.text.now in
    let digit : is_ascii_digit (get_or ds i 0) ≡ true = sym c.if-not-is_ascii_digit.ensures.value in
    let value = digit_value-digit (get_or ds i 0) digit in
    let next = next_fits c.args.number i c.loop-byte.appended ds c.loop-byte-test.true c.loop-byte.invariant.value c.loop-byte.invariant.digits digit c.requires.fits in
    omega (arith, c.from.ensures)

pub loop-byte-preserved : goal.loop-byte-preserved
loop-byte-preserved c =
    let i = c.loop-byte.byte-index in
    let ds = c.args.text.now in
    let digit : is_ascii_digit (get_or ds i 0) ≡ true = sym c.if-not-is_ascii_digit.ensures.value in
    let value = digit_value-digit (get_or ds i 0) digit in
    let more = one_more_value c.args.number i ds c.loop-byte-test.true in
    record {
      digits = one_more_digit ds i c.loop-byte-test.true c.loop-byte.invariant.digits digit;
      value = omega (arith, c.from.ensures, c.loop-byte.invariant.value);
    }
