use Rattle.std.proofs.Common.{◌+◌, arith}
use Rattle.std.specs.List.{flat_map}
use Rattle.town_text.specs.Town.{all_of, node_line}
use Rattle.town_text.proofs.Ranges.{piece-put}
use Rattle.town_text.proofs.nodes.push_nodes.Goals as goal

pub loop-row-preserved : goal.loop-row-preserved
loop-row-preserved c =
    piece-put (λ y. flat_map (λ x. node_line c.args.n x y) (all_of c.args.n)) _ _ _ 0 c.loop-row.row c.loop-row.row (c.loop-row.row + 1) c.loop-row.invariant c.in_ok-push_nodes_in.ensures (omega arith) (omega arith)
