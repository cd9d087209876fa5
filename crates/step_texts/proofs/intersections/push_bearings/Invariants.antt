use Rattle.std.proofs.Common.{◌≡◌, ℕ, pos}
use Rattle.json_text.specs.Values.{whole}
use Rattle.json_text.specs.Items.{so_far}
use Rattle.step_texts.proofs.intersections.push_bearings.Given as goal

-- what is written so far
abbrev pub invariant-loop-bearing : goal.invariant-loop-bearing
invariant-loop-bearing l = l.json ≡ so_far (λ (bearing : ℕ). whole (pos bearing)) l.bearings l.fn.json l.bearing-index
