-- The arcs of a graph as a space to search.
use Rattle.std.specs.Prelude.{◌≡◌, Some, []}
use Rattle.std.specs.List.{slice_get}
use Rattle.search_graph.specs.Costs.{CostOps}
use Rattle.search_graph.specs.Digraph.{Digraph, Weighting, IsArc, IsOpen, Leaves}
use Rattle.step_search.specs.Spaces.{Space}

-- The space of a graph: a path may begin at each open vertex; each arc to an open vertex leads there, at the
-- cost of the arc and of that vertex. There are no rows.
abbrev pub arc_space : {C : Type 0} → CostOps C → Digraph → Weighting C → Space C
arc_space {C} ops g w = record {
  vertices = g.vertices;
  May = λ v. (x : C) × IsOpen w v x;
  Name = λ v i. Leaves g i v;
  Arc = λ u i v s. (a : C) × (x : C) × IsArc g i u v × (slice_get w.arc i ≡ Some a) × IsOpen w v x × (s ≡ ops.plus a x);
  heads = λ u. [];
  Costs = λ u j s. ⊥;
  row = λ u. (0, 0);
}
