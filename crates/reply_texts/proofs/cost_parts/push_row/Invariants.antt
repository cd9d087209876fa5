use Rattle.std.proofs.Common.{◌≡◌}
use Rattle.reply_texts.specs.Costs.{cell_value}
use Rattle.json_text.specs.Items.{so_far}
use Rattle.reply_texts.proofs.cost_parts.push_row.Given as goal

-- the cells so far
abbrev pub invariant-loop-cell : goal.invariant-loop-cell
invariant-loop-cell l = l.json ≡ so_far (cell_value l.part) l.row l.fn.json l.cell-index
