use Rattle.edge_graph.specs.NetworkView.{vertices_of}
use Rattle.metric_make.specs.RowsOfWays.{ArePaired}
use Rattle.metric_make.proofs.rows_of_ways.pair_up.Given as goal

-- the segments so far are found by their nodes
abbrev pub invariant-loop-s : goal.invariant-loop-s
invariant-loop-s l = ArePaired (vertices_of l.network) l.s (record { entries = l.entries; firsts = l.firsts })
