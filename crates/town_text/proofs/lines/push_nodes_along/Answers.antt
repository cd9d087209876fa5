use Rattle.std.proofs.Common.{◌+◌, ◌-◌, ◌*◌, arith}
use Rattle.town_text.specs.Town.{next_node}
use Rattle.town_text.proofs.Ranges.{piece-put}
use Rattle.town_text.proofs.lines.push_nodes_along.Goals as goal

pub loop-place-preserved : goal.loop-place-preserved
loop-place-preserved c =
    piece-put (λ k. next_node (c.args.first + k * c.args.step)) _ _ _ 1 (c.loop-place.place - 1) c.loop-place.place (c.loop-place.place + 1 - 1) c.loop-place.invariant c.in_ok-push_next.ensures (omega arith) (omega arith)
