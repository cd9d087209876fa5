use Rattle.std.proofs.Common.{arith}
use Rattle.reply_texts.specs.Costs.{part_value, costs_value}
use Rattle.json_text.specs.Items.{all_written, may_come, may_end, one_more}
use Rattle.reply_texts.proofs.cost_parts.push_costs.Goals as goal

pub tenths-requires : goal.tenths-requires
tenths-requires c = may_come (part_value c.args.part) c.args.costs.now c.args.json.now c.loop-cost.cost-index c.loop-cost.json c.loop-cost.invariant

-- one more
pub loop-cost-preserved : goal.loop-cost-preserved
loop-cost-preserved c =
    one_more (part_value c.args.part) c.args.costs.now c.args.json.now c.loop-cost.cost-index _ c.loop-cost.json _ (omega arith) c.loop-cost.invariant (rw c.of.ensures at c.in_ok-tenths.ensures.ok)

pub end_list-requires : goal.end_list-requires
end_list-requires c = may_end (part_value c.args.part) c.args.costs.now c.args.json.now c.loop-cost.cost-index c.loop-cost.json c.loop-cost.invariant

-- all of them
pub returns : goal.returns
unfolding costs_value
returns c =
    all_written (part_value c.args.part) c.args.costs.now c.args.json.now c.loop-cost.cost-index c.loop-cost.json _ (omega arith) c.loop-cost.invariant c.in_ok-end_list.ensures.ok
