use Rattle.std.proofs.Common.{◌≡◌}
use Rattle.step_texts.specs.Intersections.{intersection_value}
use Rattle.json_text.specs.Items.{so_far}
use Rattle.step_texts.proofs.intersections.push_intersections.Given as goal

-- what is written so far
abbrev pub invariant-loop-node : goal.invariant-loop-node
invariant-loop-node l = l.json ≡ so_far intersection_value l.nodes l.fn.json l.node-index
