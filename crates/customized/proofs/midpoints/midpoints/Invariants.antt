use Rattle.std.proofs.Common.{◌≡◌, ◌++◌, ◌-◌, ◌*◌, ◌≤◌, length, map, take}
use Rattle.edge_graph.specs.NetworkView.{copies_in, graph_of, vertices_of}
use Rattle.customized.specs.Framing.{midpoint_for, midpoint_of}
use Rattle.customized.proofs.midpoints.midpoints.Given as goal

-- the vertices of the network have their midpoints, and so have the copies so far
abbrev pub invariant-loop-copy : goal.invariant-loop-copy
invariant-loop-copy l = record {
  from : 2 * length l.network.segments ≤ l.copy;
  until : l.copy-end ≡ (graph_of l.network).vertices;
  lie : l.midpoints.items
      ≡ map midpoint_of (vertices_of l.network)
      ++ map (midpoint_for (map midpoint_of (vertices_of l.network))) (take (l.copy - 2 * length l.network.segments) (copies_in l.network));
}
