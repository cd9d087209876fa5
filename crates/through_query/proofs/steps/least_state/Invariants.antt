use Rattle.through_query.specs.Layers.{IsStep, sum_at}
use Rattle.through_query.proofs.steps.least_state.Given as goal

-- the least of the states so far
abbrev pub invariant-loop-state : goal.invariant-loop-state
invariant-loop-state l = IsStep (sum_at l.sums) l.state l.best
