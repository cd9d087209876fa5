-- One more digit makes a number that is no more than all of them.
use Rattle.std.proofs.Common.{◌+◌, ◌*◌, ◌<◌, ◌^◌, get_or, arith}
use Rattle.std.specs.Char.{digit_value}
use Rattle.decimal_text.proofs.Appending.{digit_of, digit_value-digit}
use Rattle.decimal_text.proofs.Fitting.{one_more_fits}
use Rattle.decimal_text.proofs.numerals.append_fitting.Goals as goal

pub overflow_mul-number : goal.overflow_mul-number
overflow_mul-number c =
    let i = c.loop-digit.digit-index in
    let n = c.loop-digit.number in
    let ds = c.args.digits.now in
    let next : n * 10 + digit_value (get_or ds i 0) < 2 ^ 64 =
    one_more_fits n i _ ds c.loop-digit-test.true c.loop-digit.invariant c.requires.fits
    in
    omega arith

pub overflow_add-number : goal.overflow_add-number
overflow_add-number c =
    let i = c.loop-digit.digit-index in
    let n = c.loop-digit.number in
    let ds = c.args.digits.now in
    let d = get_or ds i 0 in
    let value = digit_value-digit d (digit_of ds i c.requires.are_digits c.loop-digit-test.true) in
    let next : n * 10 + digit_value d < 2 ^ 64 =
    one_more_fits n i _ ds c.loop-digit-test.true c.loop-digit.invariant c.requires.fits
    in
    omega (arith, c.from.ensures)
