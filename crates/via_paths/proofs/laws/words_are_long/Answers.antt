use Rattle.via_paths.specs.GroupLaws.{words-long, words-below}
use Rattle.via_paths.proofs.laws.words_are_long.Goals as goal

pub returns-clause-long : goal.returns-clause-long
returns-clause-long c = λ groups paths. words-long groups paths

pub returns-clause-ordinary : goal.returns-clause-ordinary
returns-clause-ordinary c = λ n groups below. words-below n groups below
