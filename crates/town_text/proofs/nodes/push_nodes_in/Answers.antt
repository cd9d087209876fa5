use Rattle.std.proofs.Common.{◌+◌, arith}
use Rattle.town_text.specs.Town.{node_line}
use Rattle.town_text.proofs.Ranges.{piece-put}
use Rattle.town_text.proofs.nodes.push_nodes_in.Goals as goal

pub loop-column-preserved : goal.loop-column-preserved
loop-column-preserved c =
    piece-put (λ x. node_line c.args.n x c.args.row) _ _ _ 0 c.loop-column.column c.loop-column.column (c.loop-column.column + 1) c.loop-column.invariant c.in_ok-push_node.ensures (omega arith) (omega arith)
