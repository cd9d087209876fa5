-- What is answered for several targets at once.
use Rattle.std.specs.Prelude.{ℕ, List, Option, MatchOption}
use Rattle.std.specs.List.{Contains}
use Rattle.search_graph.specs.declared.ends.Start.{Start}
use Rattle.search_graph.specs.declared.ends.Target.{Target}
use Rattle.search_graph.specs.Costs.{CostOps, NoDearer}
use Rattle.search_graph.specs.Digraph.{Digraph, Weighting}
use Rattle.search_graph.specs.Walks.{IsBetween, IsLeastWalk, NoneBetween}
use Rattle.plain_search.specs.declared.found.Found.{Found}

-- A cheapest walk to one of the targets with its cost, than which no walk to any of them costs less, or none exactly where
-- there is no walk to any.
abbrev pub IsCheapest : {C : Type 0} → CostOps C → Digraph → Weighting C → List (Start C) → List (Target C) → Option (Found C) → Type 0
IsCheapest {C} ops g w starts targets answer = MatchOption answer
    ((t : Target C) → Contains targets t → NoneBetween ops g w starts t)
    (λ f. (t : Target C) × Contains targets t × IsLeastWalk ops g w starts t f.walk f.cost
    × ((other : Target C) (walk : List ℕ) (e : C) → Contains targets other → IsBetween ops g w starts other walk e → NoDearer ops f.cost e))
