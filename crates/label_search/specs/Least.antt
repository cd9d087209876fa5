-- What a search of a whole space from one vertex tells, by its labels.
use Rattle.std.specs.Prelude.{◌≡◌, ◌≢◌, ℕ, List, [], ◌∷◌, length, Option, Some}
use Rattle.std.specs.List.{slice_get}
use Rattle.search_graph.specs.Costs.{CostOps}
use Rattle.step_search.specs.Spaces.{Space}
use Rattle.step_search.specs.Paths.{IsLeastPathCost}

-- each vertex but the first has as its label what a cheapest path to it costs, and none where there is no path
pub record AreLeast {C : Type 0} (ops : CostOps C) (S : Space C) (start : ℕ) (labels : List (Option C)) : Type 0 where
  pub size : length labels ≡ S.vertices
  pub each : (v : ℕ) (label : Option C) → start ≢ v → slice_get labels v ≡ Some label → IsLeastPathCost ops S (record { vertex = start; cost = ops.zero } ∷ []) v label

-- no row has places
abbrev pub HasArcsAlone : {C : Type 0} → Space C → Type 0
HasArcsAlone S = (u : ℕ) → S.heads u ≡ []
