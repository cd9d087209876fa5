-- The metric of a network is one of it: its costs are small, and alike for all that stands for one vertex or turn.
use Rattle.std.proofs.Common.{◌≡◌, ℕ, ◌*◌, ◌^◌, ◌≤◌, List, length, map, subst, ◌∙◌}
use Rattle.std.proofs.lemmas.List.{length-map}
use Rattle.edge_graph.specs.NetworkView.{NetworkView, graph_of, vertices_of}
use Rattle.edge_graph.specs.Sound.{IsSoundNetwork}
use Rattle.road_segments.specs.Laws.{length-vertices}
use Rattle.search_graph.specs.declared.costs.WeightDurLen.{WeightDurLen}
use Rattle.search_graph.specs.Digraph.{Weighting}
use Rattle.search_graph.specs.RoadCosts.{road_cost_laws, road_cost_ops}
use Rattle.search_graph.specs.WeightLaws.{small_from_lists, small_is_weighting}
use Rattle.traffic_files.specs.declared.rows.SpeedRow.{SpeedRow}
use Rattle.traffic_files.specs.declared.rows.TurnRow.{TurnRow}
use Rattle.metric_make.specs.CopyLaws.{alike-by_ends, length-with_copies}
use Rattle.metric_make.specs.MetricOf.{AreWithinUnit, IsMetricOn, arc_cost, metric_of, turn_cost, vertex_cost, with_copies}

-- there is a cost for each vertex of the network
pub length-vertex_costs : (network : NetworkView) (rows : List SpeedRow) → length (map (vertex_cost network.profile.by_distance rows) (vertices_of network)) ≡ 2 * length network.segments
length-vertex_costs network rows = length-map (vertices_of network) (vertex_cost network.profile.by_distance rows) ∙ length-vertices network.segments

-- and for each vertex and each arc of the searched graph
pub length-metric_vertices : (network : NetworkView) (rows : List SpeedRow) → length (with_copies network (map (vertex_cost network.profile.by_distance rows) (vertices_of network))) ≡ (graph_of network).vertices
length-metric_vertices network rows = length-with_copies network (map (vertex_cost network.profile.by_distance rows) (vertices_of network)) (length-vertex_costs network rows)

pub length-metric_arcs : (network : NetworkView) (rows : List TurnRow) → length (map (arc_cost network rows) (graph_of network).arcs) ≡ length (graph_of network).arcs
length-metric_arcs network rows = length-map {A = ℕ × ℕ} {B = WeightDurLen} (graph_of network).arcs (arc_cost network rows)

pub metric_of-on : (network : NetworkView) → IsSoundNetwork network → (graph_of network).vertices ≤ 2 ^ 27 → (speeds : List SpeedRow) (turns : List TurnRow) (w : Weighting WeightDurLen)
    → w ≡ (metric_of network speeds turns).weights → AreWithinUnit w → IsMetricOn network (metric_of network speeds turns).weights
metric_of-on network sound few speeds turns w is within =
    let made : Weighting WeightDurLen = (metric_of network speeds turns).weights in
    let all : AreWithinUnit (metric_of network speeds turns).weights = subst AreWithinUnit is within in
    record {
      weighting = small_is_weighting road_cost_laws (graph_of network) made
          (small_from_lists road_cost_ops (graph_of network) made.vertex made.arc few (length-metric_vertices network speeds) (length-metric_arcs network turns) all.vertex all.arc);
      alike = alike-by_ends network sound (turn_cost network turns) (map (vertex_cost network.profile.by_distance speeds) (vertices_of network)) (length-vertex_costs network speeds);
    }
