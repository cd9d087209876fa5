-- For the functions of this crate alone: what a row is made of.
use Rattle.std.specs.Prelude.{◌≡◌, ℕ, ◌⊎◌, ◌<◌, List, [], length, flat_map}
use Rattle.std.specs.List.{AllZip, Contains}
use Rattle.search_graph.specs.declared.ends.Target.{Target}
use Rattle.search_graph.specs.Costs.{CostOps}
use Rattle.search_graph.specs.Digraph.{Weighting}
use Rattle.search_graph.specs.Weighted.{AreSmall}
use Rattle.head_index.specs.ByHead.{AreByHead}
use Rattle.cell_frame.specs.Borders.{Framed}
use Rattle.cell_frame.specs.Cliqued.{AreExact, CliqueLists}
use Rattle.column_query.specs.Columns.{AreColumns}
use Rattle.column_query.specs.declared.columns.TargetPoint.{TargetPoint}

-- small weights, exact cliques of them, and the arcs by their heads
pub record IsOverlay {C : Type 0} (ops : CostOps C) (f : Framed) (w : Weighting C) (cliques : CliqueLists C) (heads : List (List ℕ)) : Type 0 where
  pub small : AreSmall ops f.graph w
  pub exact : AreExact ops f w cliques (length f.cells.levels)
  pub by_head : AreByHead f.graph heads

-- the target, with what it costs from the entries of its cells
pub record IsPoint {C : Type 0} (ops : CostOps C) (f : Framed) (w : Weighting C) (t : Target C) (p : TargetPoint C) : Type 0 where
  pub target : p.target ≡ t
  pub columns : AreColumns ops f w t.vertex p.columns

abbrev pub ArePoints : {C : Type 0} → CostOps C → Framed → Weighting C → List (Target C) → List (TargetPoint C) → Type 0
ArePoints ops f w all points = AllZip (IsPoint ops f w) all points

-- no points were made, or those of all targets
abbrev pub AreMade : {C : Type 0} → CostOps C → Framed → Weighting C → List (Target C) → List (TargetPoint C) → Type 0
AreMade ops f w all points = (points ≡ []) ⊎ ArePoints ops f w all points

-- exact cliques of small weights, and the targets of all columns, one behind the other, with their points where these were made
pub record AreReady {C : Type 0} (ops : CostOps C) (f : Framed) (w : Weighting C) (cliques : CliqueLists C) (targets : List (List (Target C))) (all : List (Target C)) (points : List (TargetPoint C)) : Type 0 where
  pub small : AreSmall ops f.graph w
  pub exact : AreExact ops f w cliques (length f.cells.levels)
  pub joined : all ≡ flat_map (λ list. list) targets
  pub fit : (t : Target C) → Contains all t → (t.vertex < f.graph.vertices) × ops.units t.cost 1
  pub made : AreMade ops f w all points
