use Rattle.std.proofs.Common.{◌≡◌}
use Rattle.step_texts.specs.Lines.{point_value}
use Rattle.json_text.specs.Items.{so_far}
use Rattle.step_texts.proofs.lines.push_points.Given as goal

-- what is written so far
abbrev pub invariant-loop-point : goal.invariant-loop-point
invariant-loop-point l = l.json ≡ so_far point_value l.points l.fn.json l.point-index
