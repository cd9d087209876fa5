-- Each file has a value where nothing is refused, and the name is one of the two.
use Rattle.std.proofs.Common.{refl}
use Rattle.command_words.proofs.Named.{named}
use Rattle.command_words.proofs.laws.taken_words_make_a_command.Goals as goal

pub returns : goal.returns
returns c = λ words taken. let found = named words taken in rw found.1 refl
