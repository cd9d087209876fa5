use Rattle.std.proofs.Common.{◌≡◌}
use Rattle.reply_texts.specs.Costs.{row_value}
use Rattle.json_text.specs.Items.{so_far}
use Rattle.reply_texts.proofs.cost_parts.push_rows.Given as goal

-- what is written so far
abbrev pub invariant-loop-row : goal.invariant-loop-row
invariant-loop-row l = l.json ≡ so_far (row_value l.part) l.rows l.fn.json l.row-index
