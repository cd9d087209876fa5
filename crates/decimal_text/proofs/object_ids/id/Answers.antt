-- Nineteen digits make a number of 64 bits.
use Rattle.std.proofs.Common.{◌+◌, ◌*◌, ◌≤◌, ◌^◌, sym, arith}
use Rattle.std.proofs.lemmas.Bool.{and_parts}
use Rattle.decimal_text.proofs.Fitting.{room_is_enough}
use Rattle.decimal_text.proofs.object_ids.id.Goals as goal

pub append_fitting-magnitude-requires-clause-fits :
    goal.append_fitting-magnitude-requires-clause-fits
append_fitting-magnitude-requires-clause-fits c =
    let enough : (0 + 1) * 10 ^ 19 ≤ 2 ^ 64 = omega arith in
    room_is_enough 0 19 c.past_minus-digits.result.now (and_parts _ _ (sym c.if-not-is_numeral.ensures)).1 enough c.if-digits-gt-MOST_DIGITS.false
