use Rattle.worked_graphs.proofs.RingOfSix.{ring_space}
use Rattle.worked_graphs.proofs.rings.what_is_known_to_be_least_ends_the_search.Goals as goal

pub begin-requires-clause-space : goal.begin-requires-clause-space
begin-requires-clause-space g c = ring_space
