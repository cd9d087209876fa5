-- The newest answer is that of the target at hand.
use Rattle.std.proofs.Common.{◌≡◌, inl, inr, [], ◌∷◌, get_or, sym, ◌∙◌, ap, subst, arith, length-append}
use Rattle.std.proofs.lemmas.Option.{get_or_from_slice_get}
use Rattle.std.specs.List.{slice_get}
use Rattle.step_search.specs.Paths.{IsAnswer}
use Rattle.step_search.proofs.Grown.{slice_get-cases}
use Rattle.step_search.proofs.dijkstra.least.Goals as goal

pub loop-target-preserved : goal.loop-target-preserved
loop-target-preserved g c = record {
  under_way = c.in_ok-run.ensures.under_way;
  one_each = rw c.in_ok-push.ensures.items (omega (arith, length-append c.loop-target.found.items (c.in_ok-answer.field-0 ∷ []), c.loop-target.invariant.one_each));
  least = λ k t a ht ha.
      elim (slice_get-cases c.loop-target.found.items c.in_ok-answer.field-0 k a (ap (λ xs. slice_get xs k) (sym c.in_ok-push.ensures.items) ∙ ha)) [
        | inl q ↦ c.loop-target.invariant.least k t a ht q
        | inr q ↦
            let at : k ≡ c.loop-target.target-index = q.0 ∙ c.loop-target.invariant.one_each in
            let same : get_or c.args.targets.now c.loop-target.target-index 0 ≡ t = get_or_from_slice_get c.args.targets.now c.loop-target.target-index t 0 (ap (λ i. slice_get c.args.targets.now i) (sym at) ∙ ht) in
            subst (λ x. IsAnswer g.C.Cost.ops (g.T.Steps.space c.args.steps.now) c.args.starts.now x a) same
            (subst (λ x. IsAnswer g.C.Cost.ops (g.T.Steps.space c.args.steps.now) c.args.starts.now (get_or c.args.targets.now c.loop-target.target-index 0) x) q.1 c.in_ok-answer.ensures)
      ];
}
