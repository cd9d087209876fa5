use Rattle.std.proofs.Common.{◌≡◌, ◌≤◌, take, count_by}
use Rattle.edge_graph.specs.NetworkView.{vertices_of}
use Rattle.map_loading.proofs.counting.permitted_in.Given as goal

-- the permitted vertices so far are counted
abbrev pub invariant-loop-v : goal.invariant-loop-v
invariant-loop-v l = record {
  so_far : l.count ≡ count_by (λ v. v.permitted) (take l.v (vertices_of l.network));
  few : l.count ≤ l.v;
}
