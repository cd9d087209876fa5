-- Each turn has the arrival at one state more.
use Rattle.std.proofs.Common.{ℕ, List, Option, None, Some, IfSome, ◌+◌, [], ◌∷◌, ◌++◌, sym, subst, ap, ◌∙◌}
use Rattle.through_query.specs.Layers.{AreArrivals, IsSumWithin, state_of, sum_of}
use Rattle.through_query.specs.declared.steps.Step.{Step}
use Rattle.through_query.specs.declared.sums.Sum.{Sum}
use Rattle.through_query.proofs.Arriving.{arrivals_more}
use Rattle.through_query.proofs.Stepping.{step_arrives}
use Rattle.through_query.proofs.layers.layer_behind.Goals as goal

-- what is within the bound with its step is so without
sum_within : (m : ℕ) (step : Option Step) → IfSome step (λ s. IsSumWithin m s.sum) → IfSome (sum_of step) (IsSumWithin m)
sum_within m None h = tt
sum_within m (Some step) h = h

pub loop-end-preserved : goal.loop-end-preserved
loop-end-preserved c =
    let sums = c.args.sums.now in
    let leg = c.args.leg.now in
    let step = c.least_step-step.result in
    let more = arrivals_more sums leg c.loop-end.end c.loop-end.reached.items c.loop-end.befores.items (sum_of step) (state_of step) c.loop-end.invariant
    (step_arrives sums leg c.loop-end.end step c.least_step-step.ensures.least) (λ m h. sum_within (m + 1) step (c.least_step-step.ensures.room m h)) in
    subst (λ l. AreArrivals sums leg (c.loop-end.end + 1) l c.push-in-loop-end.new.self.items) (sym (◌∙◌ {A = List (Option Sum)} c.in_ok-push.ensures.items (ap (λ v. c.loop-end.reached.items ++ v ∷ []) c.sum_of.ensures)))
    (subst (λ l. AreArrivals sums leg (c.loop-end.end + 1) (c.loop-end.reached.items ++ sum_of step ∷ []) l) (sym (◌∙◌ {A = List ℕ} c.in_ok-push-2.ensures.items (ap (λ v. c.loop-end.befores.items ++ v ∷ []) c.state_of.ensures))) more)
