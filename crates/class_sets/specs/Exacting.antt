-- Several weightings of one graph, each with its cliques and its changes (this project's rule).
use Rattle.std.specs.Prelude.{◌≡◌, ℕ, ◌-◌, ◌^◌, ◌<◌, List, length, All, Some, min, sum_by}
use Rattle.std.specs.List.{AllZip, slice_get}
use Rattle.search_graph.specs.Costs.{CostOps}
use Rattle.search_graph.specs.Digraph.{Weighting}
use Rattle.cell_frame.specs.Borders.{Framed}
use Rattle.cell_frame.specs.Cliqued.{CliqueLists}
use Rattle.cell_recustomize.specs.declared.places.Changed.{Changed}
use Rattle.cell_recustomize.specs.Touched.{IsTouchedCount, WereExact}

-- the old cliques are exact for weights that differ from w only at the changes, which are vertices and arcs of the graph
pub record IsKept {C : Type 0} (ops : CostOps C) (f : Framed) (w : Weighting C) (old : CliqueLists C) (c : Changed) : Type 0 where
  pub vertices : All (λ v. v < f.graph.vertices) c.vertices
  pub arcs : All (λ i. i < length f.graph.arcs) c.arcs
  pub exact : WereExact ops f w old c.vertices c.arcs

-- each weighting has its old cliques and its changes
pub record AreKept {C : Type 0} (ops : CostOps C) (f : Framed) (ws : List (Weighting C)) (old : List (CliqueLists C)) (cs : List Changed) : Type 0 where
  pub sets : length old ≡ length ws
  pub changes : length cs ≡ length ws
  pub each : (k : ℕ) (w : Weighting C) (cliques : CliqueLists C) (c : Changed) → slice_get ws k ≡ Some w → slice_get old k ≡ Some cliques → slice_get cs k ≡ Some c → IsKept ops f w cliques c

-- The searches are as many as the cells that each of the changes touches have entries; the count stands still at the end of
-- 64 bits.
pub record AreCounted (f : Framed) (cs : List Changed) (searches : ℕ) : Type 0 where
  pub counts : List ℕ
  pub each : AllZip (λ c n. IsTouchedCount f c.vertices c.arcs n) cs counts
  pub all : searches ≡ min (sum_by (λ n. n) counts) (2 ^ 64 - 1)
