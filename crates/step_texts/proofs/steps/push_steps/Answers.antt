use Rattle.std.proofs.Common.{ap, arith, ◌∙◌}
use Rattle.json_text.specs.Drafts.{with_value}
use Rattle.route_steps.specs.declared.step_lists.Step.{Step}
use Rattle.step_texts.specs.Steps.{step_value}
use Rattle.json_text.specs.Items.{all_written, may_come, may_end, one_more}
use Rattle.step_texts.proofs.steps.push_steps.Goals as goal

pub push_step-requires : goal.push_step-requires
push_step-requires c = may_come (step_value c.args.form c.args.side) c.args.steps.now c.args.json.now c.loop-step.step-index c.loop-step.json c.loop-step.invariant

-- one more
pub loop-step-preserved : goal.loop-step-preserved
loop-step-preserved c =
    let told = step_value c.args.form c.args.side in
    one_more told c.args.steps.now c.args.json.now c.loop-step.step-index c.step-item.result c.loop-step.json _ (omega arith) c.loop-step.invariant
    (c.in_ok-push_step.ensures ∙ ap (λ (step : Step). with_value (told step) c.loop-step.json) c.step-item.is)

pub end_list-requires : goal.end_list-requires
end_list-requires c = may_end (step_value c.args.form c.args.side) c.args.steps.now c.args.json.now c.loop-step.step-index c.loop-step.json c.loop-step.invariant

-- all of them
pub returns : goal.returns
returns c =
    all_written (step_value c.args.form c.args.side) c.args.steps.now c.args.json.now c.loop-step.step-index c.loop-step.json _ (omega arith) c.loop-step.invariant c.in_ok-end_list.ensures.ok
