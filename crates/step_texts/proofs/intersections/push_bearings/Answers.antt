use Rattle.std.proofs.Common.{ℕ, arith, pos}
use Rattle.json_text.specs.Values.{whole}
use Rattle.json_text.specs.Items.{all_written, may_come, may_end, one_more}
use Rattle.step_texts.specs.Intersections.{bearings_value}
use Rattle.step_texts.proofs.intersections.push_bearings.Goals as goal

pub count-requires : goal.count-requires
count-requires c = may_come (λ (bearing : ℕ). whole (pos bearing)) c.args.bearings.now c.args.json.now c.loop-bearing.bearing-index c.loop-bearing.json c.loop-bearing.invariant

-- one more
pub loop-bearing-preserved : goal.loop-bearing-preserved
loop-bearing-preserved c =
    one_more (λ (bearing : ℕ). whole (pos bearing)) c.args.bearings.now c.args.json.now c.loop-bearing.bearing-index _ c.loop-bearing.json _ (omega arith) c.loop-bearing.invariant (rw c.from.ensures at c.in_ok-count.ensures.ok)

pub end_list-requires : goal.end_list-requires
end_list-requires c = may_end (λ (bearing : ℕ). whole (pos bearing)) c.args.bearings.now c.args.json.now c.loop-bearing.bearing-index c.loop-bearing.json c.loop-bearing.invariant

-- all of them
pub returns : goal.returns
unfolding bearings_value
returns c =
    all_written (λ (bearing : ℕ). whole (pos bearing)) c.args.bearings.now c.args.json.now c.loop-bearing.bearing-index c.loop-bearing.json _ (omega arith) c.loop-bearing.invariant c.in_ok-end_list.ensures.ok
