-- Each turn looks at the step from one state more.
use Rattle.std.proofs.Common.{None, ap, sym, slice_index_or, ◌+◌, ◌∙◌}
use Rattle.through_query.specs.Chains.{both}
use Rattle.through_query.specs.Layers.{by_leg, sum_at}
use Rattle.through_query.proofs.Stepping.{if_within, lesser_within, step_more, step_none}
use Rattle.through_query.proofs.steps.least_step.Goals as goal

pub loop-state-init : goal.loop-state-init
loop-state-init c = record {
  least = step_none (by_leg c.args.sums.now c.args.leg.now c.args.end);
  room = λ n h. tt;
}

pub both-sum-requires : goal.both-sum-requires
both-sum-requires c = λ s e. (c.requires.room.0, c.requires.room.1, c.requires.room.2 c.loop-state.state s e)

pub loop-state-preserved : goal.loop-state-preserved
loop-state-preserved c = record {
  least = step_more (by_leg c.args.sums.now c.args.leg.now c.args.end) c.loop-state.state c.loop-state.best c.both-sum.result c.lesser-best.result c.loop-state.invariant.least
      (ap (both (sum_at c.args.sums.now c.loop-state.state)) (sym c.cost.ensures) ∙ sym c.both-sum.ensures.value)
      c.lesser-best.ensures;
  room = λ n h.
      lesser_within (n + 1) c.loop-state.best c.loop-state.state c.both-sum.result c.lesser-best.result (c.loop-state.invariant.room n h)
      (c.both-sum.ensures.room n (if_within n (slice_index_or c.args.sums.now c.loop-state.state None) (λ t e. h c.loop-state.state t e))) c.lesser-best.ensures;
}
