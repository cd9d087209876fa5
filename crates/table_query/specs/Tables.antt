-- Tables of least costs: a row for each list of starts, a column for each list of targets.
use Rattle.std.specs.Prelude.{ℕ, List, Option}
use Rattle.std.specs.List.{AllZip, Contains}
use Rattle.search_graph.specs.declared.ends.Start.{Start}
use Rattle.search_graph.specs.declared.ends.Target.{Target}
use Rattle.search_graph.specs.Costs.{CostOps}
use Rattle.search_graph.specs.Digraph.{Digraph, Weighting}
use Rattle.search_graph.specs.Walks.{IsBetween}
use Rattle.table_query.specs.LeastCosts.{IsLeastAmong}

-- some walk from one of the starts to the target t costs d
abbrev pub CostsTo : {C : Type 0} → CostOps C → Digraph → Weighting C → List (Start C) → Target C → C → Type 0
CostsTo ops g w starts t d = (walk : List ℕ) × IsBetween ops g w starts t walk d

-- some walk from one of the starts to one of the targets costs d
abbrev pub CostsBetween : {C : Type 0} → CostOps C → Digraph → Weighting C → List (Start C) → List (Target C) → C → Type 0
CostsBetween {C} ops g w starts targets d = (t : Target C) × Contains targets t × CostsTo ops g w starts t d

-- the least that a walk from one of the starts to one of the targets costs, or none exactly where there is no walk
abbrev pub IsCell : {C : Type 0} → CostOps C → Digraph → Weighting C → List (Start C) → List (Target C) → Option C → Type 0
IsCell ops g w starts targets value = IsLeastAmong ops (CostsBetween ops g w starts targets) value

-- from the starts a cell to each list of targets, in their order
abbrev pub IsRow : {C : Type 0} → CostOps C → Digraph → Weighting C → List (List (Target C)) → List (Start C) → List (Option C) → Type 0
IsRow ops g w targets starts row = AllZip (IsCell ops g w starts) targets row

-- a row for each list of starts, in their order
abbrev pub IsTable : {C : Type 0} → CostOps C → Digraph → Weighting C → List (List (Start C)) → List (List (Target C)) → List (List (Option C)) → Type 0
IsTable ops g w sources targets rows = AllZip (IsRow ops g w targets) sources rows
