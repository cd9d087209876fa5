use Rattle.std.proofs.Common.{◌≡◌, take}
use Rattle.edge_graph.specs.NetworkView.{vertices_of}
use Rattle.metric_make.specs.Avoiding.{avoided_costs}
use Rattle.metric_make.proofs.avoiding.avoided_costs.Given as goal

-- the vertices so far have their costs
abbrev pub invariant-loop-v : goal.invariant-loop-v
invariant-loop-v l = l.costs ≡ take l.v (avoided_costs l.set (vertices_of l.network) l.weights.vertex)
