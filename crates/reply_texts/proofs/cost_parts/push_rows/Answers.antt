use Rattle.std.proofs.Common.{List, Option, ap, arith, ◌∙◌}
use Rattle.search_graph.specs.declared.costs.WeightDurLen.{WeightDurLen}
use Rattle.json_text.specs.Drafts.{with_value}
use Rattle.reply_texts.specs.Costs.{row_value, rows_value}
use Rattle.json_text.specs.Items.{all_written, may_come, may_end, one_more}
use Rattle.reply_texts.proofs.cost_parts.push_rows.Goals as goal

pub push_row-requires : goal.push_row-requires
push_row-requires c = may_come (row_value c.args.part) c.args.rows.now c.args.json.now c.loop-row.row-index c.loop-row.json c.loop-row.invariant

-- one more
pub loop-row-preserved : goal.loop-row-preserved
loop-row-preserved c =
    one_more (row_value c.args.part) c.args.rows.now c.args.json.now c.loop-row.row-index c.row-item.result c.loop-row.json _ (omega arith) c.loop-row.invariant (c.in_ok-push_row.ensures ∙ ap (λ (row : List (Option WeightDurLen)). with_value (row_value c.args.part row) c.loop-row.json) (c.as_slice.ensures ∙ c.row-item.is))

pub end_list-requires : goal.end_list-requires
end_list-requires c = may_end (row_value c.args.part) c.args.rows.now c.args.json.now c.loop-row.row-index c.loop-row.json c.loop-row.invariant

-- all of them
pub returns : goal.returns
unfolding rows_value
returns c =
    all_written (row_value c.args.part) c.args.rows.now c.args.json.now c.loop-row.row-index c.loop-row.json _ (omega arith) c.loop-row.invariant c.in_ok-end_list.ensures.ok
