-- A vertex that is alone is a target of the search, and else its part has its column.
use Rattle.std.proofs.Common.{◌≡◌, ℕ, ◌+◌, ◌-◌, Option, List, arith, subst}
use Rattle.search_graph.specs.Costs.{CostOps}
use Rattle.search_graph.specs.Digraph.{Weighting}
use Rattle.cell_frame.specs.Borders.{Framed, cell_of}
use Rattle.column_search.specs.Columns.{IsColumn}
use Rattle.column_query.proofs.Costing.{IsLeastPathCost-alone}
use Rattle.column_query.proofs.paths.path_cost.Goals as goal

column_at : {C : Type 0} (ops : CostOps C) (f : Framed) (w : Weighting C) (t l level : ℕ) (column : List (Option C)) → l ≡ level → IsColumn ops f w (cell_of f.cells l t) t column → IsColumn ops f w (cell_of f.cells level t) t column
column_at ops f w t l level column e h = subst (λ (x : ℕ). IsColumn ops f w (cell_of f.cells x t) t column) e h

pub returns-then-level-eq0-clause-cost : goal.returns-then-level-eq0-clause-cost
returns-then-level-eq0-clause-cost g c = IsLeastPathCost-alone g.met.C.Cost.laws _ _ _ _ _ c.requires.ready c.args.target (omega (arith, c.level-level.ensures, c.if-level-eq0.true)) c.cost.result c.cost.ensures

pub through-requires-clause-column : goal.through-requires-clause-column
through-requires-clause-column g c = column_at g.C.Cost.ops c.args.over.now.frame.now c.args.over.now.weights.now c.args.target ((c.level-level.result - 1) + 1) _ c.at.result.now (omega (arith, c.level-level.ensures, c.if-level-eq0.false)) (c.requires.columns.each (c.level-level.result - 1) c.at.result.now c.at.ensures)
