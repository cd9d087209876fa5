use Rattle.std.proofs.Common.{◌≡◌}
use Rattle.json_text.specs.Values.{whole}
use Rattle.json_text.specs.Items.{so_far}
use Rattle.reply_texts.proofs.annotations.push_nodes.Given as goal

-- what is written so far
abbrev pub invariant-loop-node : goal.invariant-loop-node
invariant-loop-node l = l.json ≡ so_far whole l.nodes l.fn.json l.node-index
