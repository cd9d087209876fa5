use Rattle.worked_graphs.proofs.LeadingRing.{leading_space}
use Rattle.worked_graphs.proofs.leading.path_told.Goals as goal

pub restart-requires-clause-space : goal.restart-requires-clause-space
restart-requires-clause-space c = leading_space
