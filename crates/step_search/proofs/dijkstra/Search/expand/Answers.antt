-- The arcs and the row are all hops out of the node.
use Rattle.std.proofs.Common.{[], inl, inr, sym, subst}
use Rattle.search_labels.specs.Labelled.{label_of}
use Rattle.row_labels.specs.Rowed.{value_of}
use Rattle.step_search.specs.Progress.{AreBounds}
use Rattle.step_search.proofs.Bounded.{AreBounds-falls}
use Rattle.step_search.proofs.Falls.{LabelWithin-falls}
use Rattle.step_search.proofs.Offered.{OnlyGrows-falls, OnlyGrows-trans}
use Rattle.step_search.proofs.dijkstra.Search.expand.Goals as goal

pub expand_row-requires-clause-rows : goal.expand_row-requires-clause-rows
expand_row-requires-clause-rows g c =
    subst (λ x. AreBounds g.C.Cost.ops (g.T.Steps.space c.args.steps.now) (label_of c.expand_arcs.new.self.labels) (value_of x.rows)) (sym c.in_ok-expand_arcs.ensures.rows)
    (AreBounds-falls g.met.C.Cost.laws (g.T.Steps.space c.args.steps.now) (label_of c.args.self.now.labels) (label_of c.expand_arcs.new.self.labels) c.in_ok-expand_arcs.ensures.falls.falls (value_of c.args.self.now.rows.rows) c.requires.rows)

pub returns-clause-grows : goal.returns-clause-grows
returns-clause-grows g c =
    let S = g.T.Steps.space c.args.steps.now in
    OnlyGrows-trans g.met.C.Cost.laws S [] c.args.self.now c.expand_arcs.new.self c.expand_row.new.self
    (OnlyGrows-falls g.met.C.Cost.laws S [] c.args.self.now c.expand_arcs.new.self c.in_ok-expand_arcs.ensures.falls) c.in_ok-expand_row.ensures.grows

pub returns-clause-expanded : goal.returns-clause-expanded
returns-clause-expanded g c = record {
  finds = λ v s h. elim h [
    | inl k ↦ LabelWithin-falls g.met.C.Cost.laws (label_of c.expand_arcs.new.self.labels) (label_of c.expand_row.new.self.labels) v (g.C.Cost.ops.plus c.args.node.cost s) c.in_ok-expand_row.ensures.grows.falls (c.in_ok-expand_arcs.ensures.found k.0 v s k.1)
    | inr k ↦ c.in_ok-expand_row.ensures.found k.0 v s k.1 k.2
  ];
}
