use Rattle.std.proofs.Common.{All, ◌<◌}
use Rattle.search_graph.specs.RoadCosts.{road_cost_ops}
use Rattle.small_graphs.proofs.ends.starts.Given as goal

-- each so far is at one of the vertices, and costs at most one unit
abbrev pub invariant-loop-entry : goal.invariant-loop-entry
invariant-loop-entry l = All (λ s. (s.vertex < l.vertices) × road_cost_ops.units s.cost 1) l.starts.items
