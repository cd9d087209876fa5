-- What holds of each network that is built.
use Rattle.std.specs.Prelude.{◌*◌, ◌<◌, ◌≤◌, All, length}
use Rattle.search_graph.specs.Faults.{AllInRange}
use Rattle.edge_graph.specs.NetworkView.{NetworkView}
use Rattle.road_turns.specs.Turn.{IsSimple}

-- no turn stands twice, and each is from a vertex to a vertex; the forbidden sequences are of three vertices or more
pub record IsSoundNetwork (network : NetworkView) : Type 0 where
  pub simple : IsSimple network.turns
  pub in_range : AllInRange (2 * length network.segments) network.turns
  pub long : All (λ s. 3 ≤ length s) network.forbidden
  pub ordinary : All (λ s. All (λ v. v < 2 * length network.segments) s) network.forbidden
