-- The metric of those who avoid the ways of some classes (this project's rule; as the option `exclude` of OSRM's
-- services).
use Rattle.std.specs.Prelude.{ℕ, Bool, List, [], map, Option, Some, None, unwrap_or, if◌then◌else◌}
use Rattle.std.specs.List.{list_any, slice_get, zip}
use Rattle.road_base.specs.Words.{is_among}
use Rattle.search_graph.specs.declared.costs.WeightDurLen.{WeightDurLen}
use Rattle.search_graph.specs.Digraph.{Weighting}
use Rattle.edge_graph.specs.NetworkView.{NetworkView, vertices_of}
use Rattle.road_segments.specs.Vertex.{Vertex}
use Rattle.metric_make.specs.MetricOf.{with_copies}
use Rattle.metric_make.specs.RoadMetric.{RoadMetric}
use Rattle.way_profile.specs.Vehicle.{ProfileView}

-- a vertex is avoided that has a class of the set
abbrev pub is_avoided : List (List ℕ) → Vertex → Bool
is_avoided set v = list_any (is_among set) v.classes

-- what a vertex costs those who avoid the set: it is closed to them where it is avoided
abbrev pub avoided_cost : List (List ℕ) → Vertex → Option WeightDurLen → Option WeightDurLen
avoided_cost set v cost = if is_avoided set v then None else cost

abbrev pub avoided_costs : List (List ℕ) → List Vertex → List (Option WeightDurLen) → List (Option WeightDurLen)
avoided_costs set vs costs = map (λ p. avoided_cost set p.0 p.1) (zip vs costs)

-- the set of this number among those that the profile lets be avoided
abbrev pub set_at : ProfileView → ℕ → List (List ℕ)
set_at profile set = unwrap_or (slice_get profile.excludable set) []

-- the weights of a network for those who avoid the set of this number, or none: vertices are closed, and all turns stay
abbrev pub avoided : NetworkView → Option ℕ → Weighting WeightDurLen → Weighting WeightDurLen
avoided network None weights = weights
avoided network (Some set) weights = record {
  vertex = with_copies network (avoided_costs (set_at network.profile set) (vertices_of network) weights.vertex);
  arc = weights.arc;
}

-- the network under these weights
abbrev pub avoiding : Option ℕ → RoadMetric → RoadMetric
avoiding set road = record { network = road.network; weights = avoided road.network set road.weights }
