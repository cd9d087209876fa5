use Rattle.worked_graphs.proofs.RingOfSix.{ring_space}
use Rattle.worked_graphs.proofs.rings.least_told.Goals as goal

pub least-requires-clause-space : goal.least-requires-clause-space
least-requires-clause-space c = ring_space
