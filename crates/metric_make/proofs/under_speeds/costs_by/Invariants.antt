use Rattle.std.proofs.Common.{◌≡◌, All, map, take}
use Rattle.std.specs.Option.{ForSome}
use Rattle.edge_graph.specs.NetworkView.{vertices_of}
use Rattle.metric_make.specs.MetricOf.{IsShort, vertex_cost}
use Rattle.metric_make.specs.RowsOfWays.{AreRowsTold}
use Rattle.search_graph.specs.RoadCosts.{road_cost_ops}
use Rattle.metric_make.proofs.under_speeds.costs_by.Given as goal

-- the vertices so far have their costs, and have matched their rows
abbrev pub invariant-loop-v : goal.invariant-loop-v
invariant-loop-v l = record {
  paid : l.costs ≡ take l.v (map (vertex_cost l.network.profile.by_distance l.rows) (vertices_of l.network));
  unit : All (λ o. ForSome o (λ x. road_cost_ops.units x 1)) l.costs;
  short : All (λ o. ForSome o IsShort) l.costs;
  told : AreRowsTold (vertices_of l.network) l.rows l.v l.table;
}
