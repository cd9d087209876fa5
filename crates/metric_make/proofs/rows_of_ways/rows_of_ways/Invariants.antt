use Rattle.edge_graph.specs.NetworkView.{vertices_of}
use Rattle.metric_make.specs.RowsOfWays.{AreWaysTold}
use Rattle.metric_make.proofs.rows_of_ways.rows_of_ways.Given as goal

-- the rows so far are found or counted
abbrev pub invariant-loop-i : goal.invariant-loop-i
invariant-loop-i l = AreWaysTold (vertices_of l.network) l.rows l.i l.found
