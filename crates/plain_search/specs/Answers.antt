-- What a query answers for a target.
use Rattle.std.specs.Prelude.{Option, List, MatchOption}
use Rattle.search_graph.specs.declared.ends.Start.{Start}
use Rattle.search_graph.specs.declared.ends.Target.{Target}
use Rattle.search_graph.specs.Costs.{CostOps}
use Rattle.search_graph.specs.Digraph.{Digraph, Weighting}
use Rattle.search_graph.specs.Walks.{IsLeastWalk, NoneBetween}
use Rattle.plain_search.specs.declared.found.Found.{Found}

-- a cheapest walk from a start to the target t with its cost, or none exactly where there is no walk
abbrev pub IsFound : {C : Type 0} → CostOps C → Digraph → Weighting C → List (Start C) → Target C → Option (Found C) → Type 0
IsFound ops g w starts t answer = MatchOption answer (NoneBetween ops g w starts t) (λ f. IsLeastWalk ops g w starts t f.walk f.cost)
