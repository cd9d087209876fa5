use Rattle.edge_graph.proofs.NetworkLemmas.{speed-in_range}
use Rattle.edge_graph.proofs.networks.Network.speed.Goals as goal

pub returns-clause-in_range : goal.returns-clause-in_range
returns-clause-in_range c = speed-in_range _ _ _ c.self.invariant.speeds c.speed.ensures
