-- The row is touched before it has a span.
use Rattle.std.proofs.Common.{arith}
use Rattle.row_labels.proofs.Touching.{AreTouched-more, AreTouched-put, last_in}
use Rattle.row_labels.proofs.blocks.Blocks.put.Goals as goal

pub invariant_of-self-2 : goal.invariant_of-self-2
invariant_of-self-2 c =
    let levels = c.lengthen_levels.new.levels.items in
    let touched = c.push.new.self.items in
    let more = AreTouched-more c.self.inside.levels.items levels c.self.inside.touched.items touched c.args.name c.lengthen_levels.ensures.same c.in_ok-push.ensures.items c.self.invariant in
    AreTouched-put levels c.args.name.0 c.index_mut.result.now c.put.new.self (omega (arith, c.in_ok-lengthen_levels.ensures.long)) c.index_mut.ensures.value
    c.args.name.1 touched (last_in c.self.inside.touched.items touched c.args.name c.in_ok-push.ensures.items) c.put.ensures.others more
