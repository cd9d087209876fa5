use Rattle.std.proofs.Common.{arith}
use Rattle.json_text.specs.Values.{boolean}
use Rattle.json_text.specs.Items.{all_written, may_come, may_end, one_more}
use Rattle.step_texts.specs.Intersections.{entries_value}
use Rattle.step_texts.proofs.intersections.push_entries.Goals as goal

pub boolean-requires : goal.boolean-requires
boolean-requires c = may_come boolean c.args.entries.now c.args.json.now c.loop-entry.entry-index c.loop-entry.json c.loop-entry.invariant

-- one more
pub loop-entry-preserved : goal.loop-entry-preserved
loop-entry-preserved c =
    one_more boolean c.args.entries.now c.args.json.now c.loop-entry.entry-index _ c.loop-entry.json _ (omega arith) c.loop-entry.invariant c.in_ok-boolean.ensures.ok

pub end_list-requires : goal.end_list-requires
end_list-requires c = may_end boolean c.args.entries.now c.args.json.now c.loop-entry.entry-index c.loop-entry.json c.loop-entry.invariant

-- all of them
pub returns : goal.returns
unfolding entries_value
returns c =
    all_written boolean c.args.entries.now c.args.json.now c.loop-entry.entry-index c.loop-entry.json _ (omega arith) c.loop-entry.invariant c.in_ok-end_list.ensures.ok
