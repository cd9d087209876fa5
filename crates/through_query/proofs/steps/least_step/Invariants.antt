use Rattle.std.proofs.Common.{ℕ, ◌+◌, IfSome}
use Rattle.through_query.specs.Layers.{AreSumsWithin, IsStep, IsSumWithin, by_leg}
use Rattle.through_query.proofs.steps.least_step.Given as goal

-- the least of the steps from the states so far
abbrev pub invariant-loop-state : goal.invariant-loop-state
invariant-loop-state l = record {
  least : IsStep (by_leg l.sums l.leg l.end) l.state l.best;
  room : (n : ℕ) → AreSumsWithin n l.sums → IfSome l.best (λ step. IsSumWithin (n + 1) step.sum);
}
