-- Each turn looks at one state more.
use Rattle.std.proofs.Common.{None, slice_index_or, refl}
use Rattle.through_query.specs.Layers.{sum_at}
use Rattle.through_query.proofs.Stepping.{step_more, step_none}
use Rattle.through_query.proofs.steps.least_state.Goals as goal

pub loop-state-init : goal.loop-state-init
loop-state-init c = step_none (sum_at c.args.sums.now)

pub loop-state-preserved : goal.loop-state-preserved
loop-state-preserved c =
    step_more (sum_at c.args.sums.now) c.loop-state.state c.loop-state.best (slice_index_or c.args.sums.now c.loop-state.state None) c.lesser-best.result c.loop-state.invariant refl c.lesser-best.ensures
