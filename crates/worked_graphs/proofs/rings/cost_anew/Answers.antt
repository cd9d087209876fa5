use Rattle.worked_graphs.proofs.RingOfSix.{ring_space}
use Rattle.worked_graphs.proofs.rings.cost_anew.Goals as goal

pub restart-requires-clause-space : goal.restart-requires-clause-space
restart-requires-clause-space c = ring_space
