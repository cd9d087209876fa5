-- What stands side by side in one metric: the costs without exclusion, and those for each set of classes that the
-- profile lets be avoided (this project's rule; as the option `exclude` of OSRM's services).
use Rattle.std.specs.Prelude.{ℕ, ◌+◌, List, ◌∷◌, length, map, Option, Some, None}
use Rattle.std.specs.List.{range_with_len}
use Rattle.search_graph.specs.declared.costs.WeightDurLen.{WeightDurLen}
use Rattle.search_graph.specs.Digraph.{Weighting}
use Rattle.edge_graph.specs.NetworkView.{NetworkView}
use Rattle.metric_make.specs.Avoiding.{avoided}
use Rattle.customized.specs.declared.bases.Bases.{Bases}

-- the sets that the profile lets be avoided, each by its number
abbrev pub sets : NetworkView → List (Option ℕ)
sets network = map Some (range_with_len 0 (length network.profile.excludable))

-- no exclusion, and then each set
abbrev pub exclusions : NetworkView → List (Option ℕ)
exclusions network = None ∷ sets network

-- the weights of a network under each of them
abbrev pub weights_under : NetworkView → Weighting WeightDurLen → List (Weighting WeightDurLen)
weights_under network weights = map (λ set. avoided network set weights) (exclusions network)

-- For private functions: the weights that stand side by side, and the place of each.
abbrev pub weights_in : Bases → List (Weighting WeightDurLen)
weights_in bases = bases.plain.weights ∷ map (λ base. base.weights) bases.avoiding.items

abbrev pub place_of : Option ℕ → ℕ
place_of None = 0
place_of (Some set) = set + 1
