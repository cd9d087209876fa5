-- What an arc found stays found while labels fall, and no hop leads along a row.
use Rattle.std.proofs.Common.{◌≡◌, ℕ, ◌<◌, inl, inr, length, sym, ◌∙◌, subst, arith, below_more}
use Rattle.std.proofs.lemmas.Option.{same_Some, slice_get_within}
use Rattle.list_lemmas.proofs.Gets.{get_Contains}
use Rattle.label_search.proofs.Labelling.{Front-expanded, in_range, no_place}
use Rattle.label_search.proofs.labels.Labels.expand.Goals as goal

pub arcs-arcs-requires-clause-vertex : goal.arcs-arcs-requires-clause-vertex
arcs-arcs-requires-clause-vertex g c = in_range (g.T.Steps.space c.args.ground.now.steps.now) c.args.self.now.list c.requires.front.size c.args.entry.vertex c.args.entry.cost c.requires.here

pub loop-place-init : goal.loop-place-init
loop-place-init g c = record {
  front = c.requires.front;
  found = λ k lt. absurd (omega (arith, lt));
}

pub relax-requires-clause-vertex : goal.relax-requires-clause-vertex
relax-requires-clause-vertex g c = in_range (g.T.Steps.space c.args.ground.now.steps.now) c.args.self.now.list c.requires.front.size c.args.entry.vertex c.args.entry.cost c.requires.here

pub relax-requires-clause-reached : goal.relax-requires-clause-reached
relax-requires-clause-reached g c = c.requires.front.reached c.args.entry.vertex c.args.entry.cost c.requires.here

pub relax-requires-clause-front : goal.relax-requires-clause-front
relax-requires-clause-front g c = c.loop-place.invariant.front

pub loop-place-preserved : goal.loop-place-preserved
loop-place-preserved g c = record {
  front = c.in_ok-relax.ensures.front;
  found = below_more _ _
      (λ k lt i w s e h. c.in_ok-relax.ensures.falls w (g.C.Cost.ops.plus c.args.entry.cost s) (c.loop-place.invariant.found k lt i w s e h))
      (λ i w s e h.
      let same : i ≡ c.get.result = same_Some i c.get.result (sym e ∙ c.get.ensures) in
      c.in_ok-relax.ensures.found w s (subst (λ (x : ℕ). (g.T.Steps.space c.args.ground.now.steps.now).Arc c.args.entry.vertex x w s) same h));
}

pub returns : goal.returns
returns g c =
    Front-expanded g.C.Cost.ops (g.T.Steps.space c.args.ground.now.steps.now) c.args.start c.loop-place.self.list c.loop-place.self.frontier c.args.entry.vertex c.args.entry.cost c.loop-place.invariant.front
    (λ w s hop. elim hop [
      | inl a ↦
          let k = get_Contains c.arcs-arcs.result a.0 (c.arcs-arcs.ensures.all a.0 w s a.1) in
          let lt : k.0 < length c.arcs-arcs.result = slice_get_within c.arcs-arcs.result k.0 a.0 k.1 in
          c.loop-place.invariant.found k.0 (omega arith) a.0 w s k.1 a.1
      | inr r ↦ absurd (no_place (g.T.Steps.space c.args.ground.now.steps.now) c.requires.alone c.args.entry.vertex r.0 w r.1)
    ])
