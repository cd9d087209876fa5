use Rattle.std.proofs.Common.{◌≡◌, ◌++◌, All, drop, map, take}
use Rattle.edge_graph.specs.NetworkView.{vertices_of}
use Rattle.metric_make.specs.LastRows.{AreTurnsTold}
use Rattle.metric_make.specs.MetricOf.{turn_cost}
use Rattle.metric_make.specs.TrafficRows.{is_turn_over}
use Rattle.search_graph.specs.RoadCosts.{road_cost_ops}
use Rattle.metric_make.proofs.under_turns.costs_by.Given as goal

-- the turns so far have their costs, and have matched their rows
abbrev pub invariant-loop-i : goal.invariant-loop-i
invariant-loop-i l = record {
  rest : l.costs ++ map (turn_cost l.network l.rows) (drop l.i l.network.turns) ≡ map (turn_cost l.network l.rows) l.network.turns;
  unit : All (λ a. road_cost_ops.units a 1) l.costs;
  told : AreTurnsTold l.rows (λ q. is_turn_over (vertices_of l.network) (take l.i l.network.turns) q.0 q.1 q.2) l.last;
}
