use Rattle.std.proofs.Common.{◌≡◌, ◌++◌, [], All, drop, map}
use Rattle.std.specs.Option.{ForSome}
use Rattle.road_segments.specs.Vertex.{vertices}
use Rattle.metric_make.specs.MetricOf.{IsShort, vertex_cost}
use Rattle.search_graph.specs.RoadCosts.{road_cost_ops}
use Rattle.metric_make.proofs.vertices.vertex_costs.Given as goal

-- the segments so far have their costs
abbrev pub invariant-loop-s : goal.invariant-loop-s
invariant-loop-s l = record {
  rest : l.costs ++ map (vertex_cost l.network.profile.by_distance []) (vertices (drop l.s l.network.segments)) ≡ map (vertex_cost l.network.profile.by_distance []) (vertices l.network.segments);
  unit : All (λ o. ForSome o (λ x. road_cost_ops.units x 1)) l.costs;
  short : All (λ o. ForSome o IsShort) l.costs;
}
