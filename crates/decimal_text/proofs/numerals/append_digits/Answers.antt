-- As many digits as there is room for make a number of 64 bits.
use Rattle.decimal_text.proofs.Fitting.{room_is_enough}
use Rattle.decimal_text.proofs.numerals.append_digits.Goals as goal

pub append_fitting-requires-clause-fits : goal.append_fitting-requires-clause-fits
append_fitting-requires-clause-fits c =
    room_is_enough c.args.number c.room_behind.result c.args.digits.now c.requires.are_digits c.room_behind.ensures c.if-digits-room_behind.true
