use Rattle.command_words.proofs.Taken.{made-has-numbers}
use Rattle.command_words.proofs.laws.made_commands_have_their_numbers.Goals as goal

pub returns : goal.returns
returns c = made-has-numbers
