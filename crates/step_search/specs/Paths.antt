-- What a search answers: a cheapest path from a start to a target.
use Rattle.std.specs.Prelude.{◌≡◌, ℕ, ◌<◌, List, [], ◌∷◌, ◌++◌, MatchOption}
use Rattle.std.specs.Prelude.{Option}
use Rattle.std.specs.List.{Contains}
use Rattle.search_graph.specs.Costs.{CostOps, NoDearer}
use Rattle.search_graph.specs.declared.ends.Start.{Start}
use Rattle.step_search.specs.Spaces.{Space, StepBy, Path}
use Rattle.step_search.specs.declared.dijkstra.Reached.{Reached}

-- each start is a vertex, and what is paid there is within one unit
abbrev pub AreStarts : {C : Type 0} → CostOps C → Space C → List (Start C) → Type 0
AreStarts {C} ops S starts = (s : Start C) → Contains starts s → (s.vertex < S.vertices) × ops.units s.cost 1

-- `walk`, of two vertices or more along hops, leads from a start where a path may begin to the target, and costs d:
-- what is paid at the start and all hops
pub record IsPathTo {C : Type 0} (ops : CostOps C) (S : Space C) (starts : List (Start C)) (target : ℕ) (walk : List ℕ) (d : C) : Type 0 where
  pub start : Start C
  pub among : Contains starts start
  pub may : S.May start.vertex
  pub middle : List ℕ
  pub last : ℕ
  pub paid : C
  pub goes : Path ops S start.vertex start.cost middle last paid
  pub joins : StepBy ops S last target paid d
  pub is_walk : walk ≡ start.vertex ∷ (middle ++ target ∷ [])

-- `walk` leads to the target at the cost d, and no other does at less
pub record IsLeastPath {C : Type 0} (ops : CostOps C) (S : Space C) (starts : List (Start C)) (target : ℕ) (walk : List ℕ) (d : C) : Type 0 where
  pub leads : IsPathTo ops S starts target walk d
  pub least : (other : List ℕ) (e : C) → IsPathTo ops S starts target other e → NoDearer ops d e

-- no walk leads to the target
abbrev pub NoPathTo : {C : Type 0} → CostOps C → Space C → List (Start C) → ℕ → Type 0
NoPathTo {C} ops S starts target = (walk : List ℕ) (d : C) → ¬ IsPathTo ops S starts target walk d

-- no walk leads to the target at less than `limit`
abbrev pub IsBeyond : {C : Type 0} → CostOps C → Space C → List (Start C) → ℕ → C → Type 0
IsBeyond {C} ops S starts target limit = (walk : List ℕ) (d : C) → IsPathTo ops S starts target walk d → NoDearer ops limit d

-- what a cheapest path to the target costs, and none exactly where there is none
abbrev pub IsLeastPathCost : {C : Type 0} → CostOps C → Space C → List (Start C) → ℕ → Option C → Type 0
IsLeastPathCost ops S starts target cost = MatchOption cost (NoPathTo ops S starts target) (λ d. (walk : List ℕ) × IsLeastPath ops S starts target walk d)

-- the answer to a target: a cheapest path to it, and none exactly where there is none
abbrev pub IsAnswer : {C : Type 0} → CostOps C → Space C → List (Start C) → ℕ → Option (Reached C) → Type 0
IsAnswer {C} ops S starts target answer = MatchOption answer (NoPathTo ops S starts target)
    (λ r. IsLeastPath ops S starts target r.walk.items r.cost)
