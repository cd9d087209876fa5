-- Which weights a search takes (this project's rule).
use Rattle.std.specs.Prelude.{◌≡◌, ℕ, ◌^◌, ◌≤◌, List, length, Some}
use Rattle.std.specs.List.{slice_get}
use Rattle.search_graph.specs.Costs.{CostOps, NoDearer}
use Rattle.search_graph.specs.Digraph.{Digraph, Weighting, IsOpen}
use Rattle.search_graph.specs.Walks.{Walk}

-- The weights fit the graph; each is within 2^28 units; and for each walk from an open vertex there is one
-- of the same ends that is no dearer and within 2^28 units. So no sum of a search passes 2^31 units.
pub record IsWeighting {C : Type 0} (ops : CostOps C) (g : Digraph) (w : Weighting C) : Type 0 where
  pub vertices : length w.vertex ≡ g.vertices
  pub arcs : length w.arc ≡ length g.arcs
  pub vertex_units : (v : ℕ) (x : C) → IsOpen w v x → ops.units x (2 ^ 28)
  pub arc_units : (i : ℕ) (a : C) → slice_get w.arc i ≡ Some a → ops.units a (2 ^ 28)
  pub walk_units : (u z : ℕ) (x d : C) (vs : List ℕ) → IsOpen w u x → Walk ops g w u ops.zero vs z d →
      (ws : List ℕ) × (e : C) × Walk ops g w u ops.zero ws z e × NoDearer ops e d × ops.units e (2 ^ 28)

-- The weights fit the graph, which has at most 2^27 vertices, and each is within one unit.
pub record AreSmall {C : Type 0} (ops : CostOps C) (g : Digraph) (w : Weighting C) : Type 0 where
  pub few : g.vertices ≤ 2 ^ 27
  pub vertices : length w.vertex ≡ g.vertices
  pub arcs : length w.arc ≡ length g.arcs
  pub vertex_unit : (v : ℕ) (x : C) → IsOpen w v x → ops.units x 1
  pub arc_unit : (i : ℕ) (a : C) → slice_get w.arc i ≡ Some a → ops.units a 1
