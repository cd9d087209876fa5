-- Each turn makes the column of one level more.
use Rattle.std.proofs.Common.{◌≡◌, ℕ, ◌+◌, ◌≤◌, ◌++◌, ◌∷◌, [], inl, inr, Some, Option, List, length, length-append, arith, sym, ◌∙◌, subst}
use Rattle.std.specs.List.{slice_get}
use Rattle.list_lemmas.proofs.Gets.{get_push}
use Rattle.search_graph.specs.Costs.{CostOps}
use Rattle.search_graph.specs.Digraph.{Weighting}
use Rattle.cell_frame.specs.declared.cells.Cell.{Cell}
use Rattle.cell_frame.specs.Borders.{Framed, cell_of}
use Rattle.column_search.specs.Columns.{IsColumn}
use Rattle.column_query.specs.Columns.{AreColumns}
use Rattle.column_query.proofs.columns.TargetColumns.made.Goals as goal

-- one level more
one_more : {C : Type 0} (ops : CostOps C) (f : Framed) (w : Weighting C) (t below : ℕ) (levels : List (List (Option C))) (new values : List (Option C)) (k : Cell) → length levels ≡ below → k ≡ cell_of f.cells (below + 1) t → new ≡ values → IsColumn ops f w k t values →
    ((i : ℕ) (column : List (Option C)) → slice_get levels i ≡ Some column → IsColumn ops f w (cell_of f.cells (i + 1) t) t column) →
    (i : ℕ) (column : List (Option C)) → slice_get (levels ++ new ∷ []) i ≡ Some column → IsColumn ops f w (cell_of f.cells (i + 1) t) t column
one_more {C} ops f w t below levels new values k n named is h before i column at = elim (get_push levels new i column at) [
  | inl there ↦ before i column there
  | inr here ↦
      let same : column ≡ values = here.1 ∙ is in
      let level : below ≡ i = sym (here.0 ∙ n) in
      subst (λ (l : ℕ). IsColumn ops f w (cell_of f.cells (l + 1) t) t column) level (subst (λ (x : Cell). IsColumn ops f w x t column) named (subst (λ (c : List (Option C)). IsColumn ops f w k t c) (sym same) h))
]

-- all levels
all_levels : {C : Type 0} (ops : CostOps C) (f : Framed) (w : Weighting C) (t below end : ℕ) (made levels : List (List (Option C))) → made ≡ levels → end ≡ length f.cells.levels → below ≤ end → end ≤ below → length levels ≡ below →
    ((i : ℕ) (column : List (Option C)) → slice_get levels i ≡ Some column → IsColumn ops f w (cell_of f.cells (i + 1) t) t column) → AreColumns ops f w t made
all_levels {C} ops f w t below end made levels is ends high low n each = subst (λ (x : List (List (Option C))). AreColumns ops f w t x) (sym is) (record { size = omega (arith, ends, high, low, n); each = each })

-- what is exact in all levels is exact below each
pub column-requires-clause-cliques : goal.column-requires-clause-cliques
column-requires-clause-cliques g c = record { rows = λ k i u at le e. c.requires.cliques.rows k i u at at.1 e; crossing = c.requires.cliques.crossing }

pub loop-below-preserved : goal.loop-below-preserved
loop-below-preserved g c = record {
  size = rw c.in_ok-push.ensures.items (omega (arith, length-append c.loop-below.levels.items (c.of.result ∷ []), c.loop-below.invariant.size));
  each = rw c.in_ok-push.ensures.items (one_more g.C.Cost.ops c.args.overlay.now.frame.now c.args.overlay.now.weights.now c.args.target c.loop-below.below c.loop-below.levels.items c.of.result c.in_ok-values.values.items c.cell-cell.result c.loop-below.invariant.size c.cell-cell.ensures.named c.of.ensures c.in_ok-values.ensures c.loop-below.invariant.each);
}

pub returns : goal.returns
returns g c = all_levels g.C.Cost.ops c.args.overlay.now.frame.now c.args.overlay.now.weights.now c.args.target c.loop-below.below c.levels-below-end.result c.of-2.result c.loop-below.levels.items c.of-2.ensures c.levels-below-end.ensures c.loop-below.auto.below-end c.loop-below-test.false c.loop-below.invariant.size c.loop-below.invariant.each
