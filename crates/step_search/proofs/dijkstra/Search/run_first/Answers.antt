-- The search is done with a target that is settled, and once the queue is empty with each; then no path leads to those without a label.
use Rattle.std.proofs.Common.{inl, inr, true, refl, sym, ◌∙◌, ap}
use Rattle.search_labels.specs.Labelled.{settled_of}
use Rattle.search_labels.specs.ChangedLaws.{same_place, changed-here, changed-there}
use Rattle.step_search.proofs.Answered.{done_empty, done_settled, no_path_left, IfNone-map, IfSome-map}
use Rattle.step_search.proofs.dijkstra.Search.run_first.Goals as goal

pub returns-in-Some-clause-first : goal.returns-in-Some-clause-first
returns-in-Some-clause-first g c =
    let s = c.in-Some.ensures.some in
    (s.0, s.1, done_settled g.met.C.Cost.laws (g.T.Steps.space c.args.steps.now) c.args.starts.now c.args.self.now c.requires.under_way s.0 (sym s.2))

pub returns-in-Some-first_place-clause-first : goal.returns-in-Some-first_place-clause-first
returns-in-Some-first_place-clause-first g c =
    let v = c.in-Some-2.v in
    let settles = rw c.in-Some-2.is at c.in_ok-v.ensures.settles in (
      v,
      c.in-Some-first_place.ensures.some,
      done_settled g.met.C.Cost.laws (g.T.Steps.space c.args.steps.now) c.args.starts.now c.settle_next.new.self c.in_ok-v.ensures.under_way v
          (sym (ap (λ f. f v) settles ∙ changed-here (settled_of c.loop-v.self.labels) v true v refl)),
    )

pub loop-v-preserved : goal.loop-v-preserved
loop-v-preserved g c =
    let v = c.in-Some-2.v in
    let settles = rw c.in-Some-2.is at c.in_ok-v.ensures.settles in
    record {
      under_way = c.in_ok-v.ensures.under_way;
      unsettled = λ t h. ap (λ f. f t) settles ∙ elim (same_place v t) [
        | inl e ↦ absurd (c.in_default-first_place.ensures.none t h (sym e))
        | inr e ↦ changed-there (settled_of c.loop-v.self.labels) v true t e ∙ c.loop-v.invariant.unsettled t h
      ];
    }

pub returns-clause-first : goal.returns-clause-first
returns-clause-first g c =
    let S = g.T.Steps.space c.args.steps.now in
    let end = c.settle_next.new.self in
    IfSome-map c.first_labelled.result (λ k h. (h.0, h.1, done_empty g.met.C.Cost.laws S c.args.starts.now end c.in_ok-v.ensures.under_way h.0 (rw c.in_default-2.is at c.in_ok-v.ensures.empty))) c.first_labelled.ensures.some

pub returns-clause-none : goal.returns-clause-none
returns-clause-none g c =
    let S = g.T.Steps.space c.args.steps.now in
    let end = c.settle_next.new.self in
    IfNone-map c.first_labelled.result (λ h t i. no_path_left g.met.C.Cost.laws S c.args.starts.now end c.in_ok-v.ensures.under_way t (rw c.in_default-2.is at c.in_ok-v.ensures.empty) (h t i)) c.first_labelled.ensures.none
