use Rattle.std.proofs.Common.{◌≡◌}
use Rattle.step_texts.specs.Steps.{step_value}
use Rattle.json_text.specs.Items.{so_far}
use Rattle.step_texts.proofs.steps.push_steps.Given as goal

-- what is written so far
abbrev pub invariant-loop-step : goal.invariant-loop-step
invariant-loop-step l = l.json ≡ so_far (step_value l.form l.side) l.steps l.fn.json l.step-index
