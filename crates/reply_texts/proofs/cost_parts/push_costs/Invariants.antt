use Rattle.std.proofs.Common.{◌≡◌}
use Rattle.reply_texts.specs.Costs.{part_value}
use Rattle.json_text.specs.Items.{so_far}
use Rattle.reply_texts.proofs.cost_parts.push_costs.Given as goal

-- the costs so far
abbrev pub invariant-loop-cost : goal.invariant-loop-cost
invariant-loop-cost l = l.json ≡ so_far (part_value l.part) l.costs l.fn.json l.cost-index
