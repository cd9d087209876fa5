use Rattle.command_words.proofs.Plain.{fails-as, is-free}
use Rattle.command_words.proofs.words.matches_of.Goals as goal

pub returns-clause-fails : goal.returns-clause-fails
returns-clause-fails c = fails-as _ _ c.in_ok-command.ensures.app is-free _ _ c.try_get_matches_from.ensures.kinds
