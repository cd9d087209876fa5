-- Where two weightings of one graph differ (this project's rule).
use Rattle.std.specs.Prelude.{◌≡◌, ◌≢◌, ℕ, ◌<◌, List, length, All, Contains}
use Rattle.std.specs.List.{slice_get}
use Rattle.std.specs.List.Sorted.{IsStrictlyIncreasing}
use Rattle.search_graph.specs.Digraph.{Digraph, Weighting}

-- the places where two lists of one length differ, rising: at each of these they do, and at no other
pub record AreChanges {A : Type 0} (old new : List A) (places : List ℕ) : Type 0 where
  pub rising : IsStrictlyIncreasing places
  pub in_range : All (λ i. i < length old) places
  pub differ : All (λ i. slice_get old i ≢ slice_get new i) places
  pub others : (i : ℕ) → ¬ Contains places i → slice_get old i ≡ slice_get new i

-- the weights are one for each vertex and each arc of the graph
pub record FitGraph {C : Type 0} (g : Digraph) (w : Weighting C) : Type 0 where
  pub vertices : length w.vertex ≡ g.vertices
  pub arcs : length w.arc ≡ length g.arcs
