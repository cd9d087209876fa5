use Rattle.worked_graphs.proofs.LeadingRing.{leading_space}
use Rattle.worked_graphs.proofs.leading.assert_exit_first.Goals as goal

pub restart-requires-clause-space : goal.restart-requires-clause-space
restart-requires-clause-space g c = leading_space
