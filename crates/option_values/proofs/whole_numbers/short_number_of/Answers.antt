-- Nine digits fit 32 bits.
use Rattle.std.proofs.Common.{◌∙◌}
use Rattle.option_values.proofs.Numbers.{short_number_of-since}
use Rattle.option_values.proofs.whole_numbers.short_number_of.Goals as goal

pub returns : goal.returns
returns c = c.number_up_to.ensures ∙ short_number_of-since c.args.text.now c.if-text-gt-MOST_DIGITS.false
