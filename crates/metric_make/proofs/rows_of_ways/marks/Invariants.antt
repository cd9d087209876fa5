use Rattle.std.proofs.Common.{◌≡◌, ℤ, ◌*◌, cond, length, Some, None, take}
use Rattle.edge_graph.specs.NetworkView.{vertices_of}
use Rattle.metric_make.specs.RowsOfWays.{known}
use Rattle.metric_make.specs.TrafficRows.{is_way}
use Rattle.metric_make.proofs.rows_of_ways.marks.Given as goal

-- it is known where the permitted vertices so far go
abbrev pub invariant-loop-v : goal.invariant-loop-v
invariant-loop-v l = record {
  many : length l.last.items ≡ 2 * length l.network.segments;
  marks : (q : ℤ × ℤ) → known l.pairs l.last.items q ≡ cond (is_way (take l.v (vertices_of l.network)) q.0 q.1) (Some None) None;
}
