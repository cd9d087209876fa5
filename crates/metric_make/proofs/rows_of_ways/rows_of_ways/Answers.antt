use Rattle.std.proofs.Common.{length}
use Rattle.edge_graph.specs.NetworkView.{vertices_of}
use Rattle.road_segments.specs.Laws.{length-vertices}
use Rattle.metric_make.proofs.WayLemmas.{told-none}
use Rattle.metric_make.proofs.rows_of_ways.rows_of_ways.Goals as goal

pub loop-i-init : goal.loop-i-init
loop-i-init c = told-none (vertices_of c.args.network.now) c.args.rows.now c.in_ok-pairs.pairs c.in_ok-last.last (length c.args.network.now.segments) (length-vertices c.args.network.now.segments) c.in_ok-pairs.ensures c.in_ok-last.ensures

pub loop-i-preserved : goal.loop-i-preserved
loop-i-preserved c = c.match_row.ensures (vertices_of c.args.network.now) c.loop-i.invariant
