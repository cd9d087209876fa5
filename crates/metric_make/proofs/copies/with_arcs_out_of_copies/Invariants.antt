use Rattle.std.proofs.Common.{◌≡◌, ℕ, ◌++◌, ◌≤◌, All, drop, length, map}
use Rattle.edge_graph.specs.NetworkView.{graph_of}
use Rattle.metric_make.specs.CopyLaws.{by_ends}
use Rattle.search_graph.specs.RoadCosts.{road_cost_ops}
use Rattle.search_graph.specs.declared.costs.WeightDurLen.{WeightDurLen}
use Rattle.metric_make.proofs.copies.with_arcs_out_of_copies.Given as goal

-- the arcs so far have their costs, among them all turns
abbrev pub invariant-loop-i : goal.invariant-loop-i
invariant-loop-i l = record {
  enough : length l.network.turns ≤ length l.costs;
  unit : All (λ a. road_cost_ops.units a 1) l.costs;
  rest : (cost : ℕ × ℕ → WeightDurLen) → l.fn.costs ≡ map cost l.network.turns →
      l.costs ++ by_ends l.network cost (drop l.i (graph_of l.network).arcs) ≡ by_ends l.network cost (graph_of l.network).arcs;
}
