-- Offers that are passed over find the labels of their heads within them.
use Rattle.std.proofs.Common.{◌≡◌, ℕ, ◌<◌, List, [], length, Some, refl, sym, subst}
use Rattle.std.specs.List.{slice_get}
use Rattle.std.proofs.lemmas.Option.{slice_get_within}
use Rattle.search_labels.specs.Labelled.{label_of}
use Rattle.row_labels.specs.Rowed.{value_of}
use Rattle.step_search.specs.Progress.{AreBounds}
use Rattle.step_search.proofs.Offered.{OnlyGrows-refl}
use Rattle.step_search.proofs.Bounded.{AreBounds-lowered, row_found, row_fits, no_cost}
use Rattle.step_search.proofs.dijkstra.Search.expand_row.Goals as goal

pub returns-then-is_empty-clause-grows : goal.returns-then-is_empty-clause-grows
returns-then-is_empty-clause-grows g c = OnlyGrows-refl g.met.C.Cost.laws (g.T.Steps.space c.args.steps.now) [] c.args.self.now

pub returns-then-is_empty-clause-found : goal.returns-then-is_empty-clause-found
returns-then-is_empty-clause-found g c j w s h k = absurd (no_cost c.costs_named-costs.result j s (c.if-is_empty.ensures.0 refl) (c.costs_named-costs.ensures.all j s k))

pub lower-requires : goal.lower-requires
lower-requires g c = record {
  fits = row_fits g.met.C.Cost.laws (g.T.Steps.space c.args.steps.now) c.args.self.now c.args.at c.args.node c.requires.at_work c.heads_named-heads.result.now c.heads_named-heads.ensures c.costs_named-costs.result c.costs_named-costs.ensures.some;
}

pub offer_improved-requires-clause-at_work : goal.offer_improved-requires-clause-at_work
offer_improved-requires-clause-at_work g c = let w = c.requires.at_work in record { space = w.space; front = w.front; here = w.here; vertex = w.vertex; units = w.units; within = w.within }

pub offer_improved-requires-clause-within : goal.offer_improved-requires-clause-within
offer_improved-requires-clause-within g c = c.in_ok-lower.ensures.within

pub returns-clause-grows : goal.returns-clause-grows
returns-clause-grows g c = let f = c.in_ok-offer_improved.ensures.grows in record { falls = f.falls; settled = f.settled; tree = f.tree }

pub returns-clause-found : goal.returns-clause-found
returns-clause-found g c j w s h k =
    let S = g.T.Steps.space c.args.steps.now in
    let lt : j < length c.heads_named-heads.result.now = slice_get_within c.heads_named-heads.result.now j w (subst (λ (xs : List ℕ). slice_get xs j ≡ Some w) (sym c.heads_named-heads.ensures) h) in
    row_found g.met.C.Cost.laws S (label_of c.args.self.now.labels) (label_of c.offer_improved.new.self.labels) c.in_ok-offer_improved.ensures.grows.falls c.args.node.vertex c.args.row c.requires.row c.requires.same
    (value_of c.args.self.now.rows.rows) (value_of c.lower.new.self.rows) c.args.node.cost c.costs_named-costs.result (length c.heads_named-heads.result.now) c.lower.new.self.improved.items c.in_ok-lower.ensures
    (λ i x t b e q. c.in_ok-offer_improved.ensures.found i x t b (subst (λ (xs : List ℕ). slice_get xs i ≡ Some x) (sym c.heads_named-heads.ensures) e) q)
    c.requires.rows j w s lt h (c.costs_named-costs.ensures.all j s k)

pub returns-clause-rows : goal.returns-clause-rows
returns-clause-rows g c =
    let S = g.T.Steps.space c.args.steps.now in
    let bounds : AreBounds g.C.Cost.ops S (label_of c.offer_improved.new.self.labels) (value_of c.lower.new.self.rows) =
    AreBounds-lowered g.met.C.Cost.laws S (label_of c.args.self.now.labels) (label_of c.offer_improved.new.self.labels) c.in_ok-offer_improved.ensures.grows.falls c.args.node.vertex c.args.row c.requires.row c.requires.same
    (value_of c.args.self.now.rows.rows) (value_of c.lower.new.self.rows) c.args.node.cost c.costs_named-costs.result (length c.heads_named-heads.result.now) c.lower.new.self.improved.items c.in_ok-lower.ensures
    (λ i x t b e q. c.in_ok-offer_improved.ensures.found i x t b (subst (λ (xs : List ℕ). slice_get xs i ≡ Some x) (sym c.heads_named-heads.ensures) e) q)
    c.requires.rows in
    subst (λ x. AreBounds g.C.Cost.ops S (label_of c.offer_improved.new.self.labels) (value_of x.rows)) (sym c.in_ok-offer_improved.ensures.rows) bounds
