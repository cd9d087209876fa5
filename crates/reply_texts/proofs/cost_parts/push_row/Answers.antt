use Rattle.std.proofs.Common.{arith}
use Rattle.reply_texts.specs.Costs.{cell_value, row_value}
use Rattle.json_text.specs.Items.{all_written, may_come, may_end, one_more}
use Rattle.reply_texts.proofs.cost_parts.push_row.Goals as goal

pub push_cell-requires : goal.push_cell-requires
push_cell-requires c = may_come (cell_value c.args.part) c.args.row.now c.args.json.now c.loop-cell.cell-index c.loop-cell.json c.loop-cell.invariant

-- one more
pub loop-cell-preserved : goal.loop-cell-preserved
loop-cell-preserved c =
    one_more (cell_value c.args.part) c.args.row.now c.args.json.now c.loop-cell.cell-index _ c.loop-cell.json _ (omega arith) c.loop-cell.invariant (c.in_ok-push_cell.ensures)

pub end_list-requires : goal.end_list-requires
end_list-requires c = may_end (cell_value c.args.part) c.args.row.now c.args.json.now c.loop-cell.cell-index c.loop-cell.json c.loop-cell.invariant

-- all of them
pub returns : goal.returns
unfolding row_value
returns c =
    all_written (cell_value c.args.part) c.args.row.now c.args.json.now c.loop-cell.cell-index c.loop-cell.json _ (omega arith) c.loop-cell.invariant c.in_ok-end_list.ensures.ok
