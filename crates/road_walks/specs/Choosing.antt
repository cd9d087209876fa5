-- The crate's own: how the least of walks is chosen from parts of them.
use Rattle.std.specs.Prelude.{◌≡◌, ℕ, ◌⊎◌, List, Option, Some, None, map}
use Rattle.search_graph.specs.declared.costs.WeightDurLen.{WeightDurLen}
use Rattle.search_graph.specs.Costs.{NoDearer}
use Rattle.search_graph.specs.RoadCosts.{road_cost_ops}
use Rattle.plain_search.specs.declared.found.Found.{Found}
use Rattle.edge_graph.specs.NetworkView.{NetworkView, stands}
use Rattle.road_places.specs.declared.walks.Route.{Route}

-- of all walks that P tells with their costs it is one of the least cost, or none where P tells none
abbrev pub IsLeastOf : (List ℕ → WeightDurLen → Type 0) → Option Route → Type 0
IsLeastOf P None = (walk : List ℕ) (d : WeightDurLen) → ¬ P walk d
IsLeastOf P (Some route) = P route.walk route.cost × ((walk : List ℕ) (d : WeightDurLen) → P walk d → NoDearer road_cost_ops route.cost d)

-- what P tells, or what Q tells
abbrev pub Either : (List ℕ → WeightDurLen → Type 0) → (List ℕ → WeightDurLen → Type 0) → List ℕ → WeightDurLen → Type 0
Either P Q walk d = P walk d ⊎ Q walk d

-- of two routes the one of the lesser cost, if there is any
abbrev pub IsCheaperOf : Option Route → Option Route → Option Route → Type 0
IsCheaperOf None b result = result ≡ b
IsCheaperOf (Some a) None result = result ≡ Some a
IsCheaperOf (Some a) (Some b) result = ((result ≡ Some a) × NoDearer road_cost_ops a.cost b.cost) ⊎ ((result ≡ Some b) × NoDearer road_cost_ops b.cost a.cost)

-- a walk that a search found, as a route: its vertices are those of the network for which those of the searched graph stand
abbrev pub route_of : NetworkView → Found WeightDurLen → Route
route_of network found = record { cost = found.cost; walk = map (stands network) found.walk }
