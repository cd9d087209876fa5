use Rattle.std.proofs.Common.{All, ◌<◌}
use Rattle.search_graph.specs.RoadCosts.{road_cost_ops}
use Rattle.worked_cells.proofs.tables.sources.Given as goal

abbrev pub invariant-loop-list : goal.invariant-loop-list
invariant-loop-list l = All (All (λ s. (s.vertex < l.vertices) × road_cost_ops.units s.cost 1)) l.sources.items
