-- An entry that is passed over is skipped; the first other one is the nearest.
use Rattle.std.proofs.Common.{sym, ◌∙◌, ap, subst}
use Rattle.search_labels.specs.Labelled.{label_of, settled_of}
use Rattle.step_search.specs.Stepping.{IsPassed}
use Rattle.step_search.proofs.Taken.{Skips-take}
use Rattle.step_search.proofs.dijkstra.Search.nearest.Goals as goal

pub returns-in-Some-settle_at-clause-some : goal.returns-in-Some-settle_at-clause-some
returns-in-Some-settle_at-clause-some g c = record {
  key = c.in-Some.entry.0;
  before = c.loop-entry.self.queue;
  skips = c.loop-entry.invariant.skips;
  takes = c.in-Some.ensures.some;
  at_key = c.in-Some-settle_at.ensures.some.2;
  unsettled = sym (ap (λ f. f c.in-Some.entry.1) c.loop-entry.invariant.settled) ∙ c.in-Some-settle_at.ensures.some.1;
  has = sym (ap (λ f. f c.in-Some.entry.1) c.loop-entry.invariant.label) ∙ c.in-Some-settle_at.ensures.some.0;
}

pub loop-entry-preserved : goal.loop-entry-preserved
loop-entry-preserved g c = record {
  skips = Skips-take g.met.C.Cost.laws (label_of c.args.self.now.labels) (settled_of c.args.self.now.labels) c.args.self.now.queue c.loop-entry.self.queue c.pop.new.self _ c.loop-entry.invariant.skips c.in-Some.ensures.some
      (subst (λ f. IsPassed g.C.Cost.ops f (settled_of c.args.self.now.labels) c.in-Some.entry.0 c.in-Some.entry.1) c.loop-entry.invariant.label
      (subst (λ f. IsPassed g.C.Cost.ops (label_of c.loop-entry.self.labels) f c.in-Some.entry.0 c.in-Some.entry.1) c.loop-entry.invariant.settled c.in_default-settle_at.ensures.none));
  label = c.in_default-settle_at.ensures.label ∙ c.loop-entry.invariant.label;
  settled = c.in_default-settle_at.ensures.same ∙ c.loop-entry.invariant.settled;
  tree = c.loop-entry.invariant.tree;
  rows = c.loop-entry.invariant.rows;
}
