use Rattle.worked_graphs.proofs.RingOfSix.{ring_space}
use Rattle.worked_graphs.proofs.rings.cost_by_known.Goals as goal

pub restart-requires-clause-space : goal.restart-requires-clause-space
restart-requires-clause-space g c = ring_space
