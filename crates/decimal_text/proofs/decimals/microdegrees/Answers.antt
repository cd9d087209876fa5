-- What is told lies in a range on Earth where the decimal does.
use Rattle.std.proofs.Common.{rules, w64}
use mir.Val.{to_z, of_z}
use Rattle.decimal_text.specs.Decimal.{microdegrees_of}
use Rattle.decimal_text.proofs.Ranges.{microdegrees_of-TellsRanges}
use Rattle.decimal_text.proofs.decimals.microdegrees.Goals as goal

pub returns-in-Some-clause-ranges : goal.returns-in-Some-clause-ranges
unfolding microdegrees_of
returns-in-Some-clause-ranges c = microdegrees_of-TellsRanges c.args.bytes.now (to_z w64 (of_z w64 c.signed.result)) (search rules)
