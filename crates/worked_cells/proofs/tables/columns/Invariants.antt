use Rattle.std.proofs.Common.{All, ◌<◌}
use Rattle.search_graph.specs.RoadCosts.{road_cost_ops}
use Rattle.worked_cells.proofs.tables.columns.Given as goal

abbrev pub invariant-loop-list : goal.invariant-loop-list
invariant-loop-list l = All (All (λ t. (t.vertex < l.vertices) × road_cost_ops.units t.cost 1)) l.columns.items
