-- What an arc found stays found while labels fall.
use Rattle.std.proofs.Common.{◌≡◌, ℕ, ◌<◌, length, refl, sym, ◌∙◌, subst, arith, below_more}
use Rattle.std.proofs.lemmas.Option.{same_Some, slice_get_within}
use Rattle.list_lemmas.proofs.Gets.{get_Contains}
use Rattle.search_labels.specs.Labelled.{label_of}
use Rattle.step_search.proofs.Falls.{LabelWithin-falls}
use Rattle.step_search.proofs.Offered.{OnlyFalls-refl, OnlyFalls-trans, hop_by_arc}
use Rattle.step_search.proofs.dijkstra.Search.go_along.Goals as goal

pub loop-place-init : goal.loop-place-init
loop-place-init g c = record {
  at_work = c.requires.at_work;
  falls = OnlyFalls-refl g.met.C.Cost.laws c.args.self.now;
  rows = refl;
  found = λ k lt. absurd (omega (arith, lt));
}

pub relax-requires-clause-at_work : goal.relax-requires-clause-at_work
relax-requires-clause-at_work g c = c.loop-place.invariant.at_work

pub relax-requires-clause-hop : goal.relax-requires-clause-hop
relax-requires-clause-hop g c = hop_by_arc (g.T.Steps.space c.args.steps.now) c.args.node.vertex c.get.result c.by_arc_named-hop.result c.by_arc_named-hop.ensures.some

pub loop-place-preserved : goal.loop-place-preserved
loop-place-preserved g c = record {
  at_work = c.in_ok-relax.ensures.at_work;
  falls = OnlyFalls-trans g.met.C.Cost.laws c.args.self.now c.loop-place.self c.relax.new.self c.loop-place.invariant.falls c.in_ok-relax.ensures.falls;
  rows = c.in_ok-relax.ensures.rows ∙ c.loop-place.invariant.rows;
  found = below_more _ _
      (λ k lt i w s e h. LabelWithin-falls g.met.C.Cost.laws (label_of c.loop-place.self.labels) (label_of c.relax.new.self.labels) w (g.C.Cost.ops.plus c.args.node.cost s) c.in_ok-relax.ensures.falls.falls (c.loop-place.invariant.found k lt i w s e h))
      (λ i w s e h.
      let same : i ≡ c.get.result = same_Some i c.get.result (sym e ∙ c.get.ensures) in
      c.in_ok-relax.ensures.found w s (c.by_arc_named-hop.ensures.all w s (subst (λ (x : ℕ). (g.T.Steps.space c.args.steps.now).Arc c.args.node.vertex x w s) same h)));
}

pub returns-clause-at_work : goal.returns-clause-at_work
returns-clause-at_work g c = c.loop-place.invariant.at_work

pub returns-clause-falls : goal.returns-clause-falls
returns-clause-falls g c = c.loop-place.invariant.falls

pub returns-clause-found : goal.returns-clause-found
returns-clause-found g c i w s b h =
    let k = get_Contains c.args.arcs.now i b in
    let lt : k.0 < length c.args.arcs.now = slice_get_within c.args.arcs.now k.0 i k.1 in
    c.loop-place.invariant.found k.0 (omega arith) i w s k.1 h
