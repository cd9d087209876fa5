-- What the vertices and turns of a network cost by the profile of the vehicle and the rows of traffic files (this
-- project's rule).
use Rattle.std.specs.Prelude.{ℕ, ◌+◌, ◌*◌, ◌/◌, ◌^◌, ◌<◌, ◌==◌, nat_le, max, map, Bool, false, List, [], ◌++◌, get_or, Option, Some, None, All, if◌then◌else◌}
use Rattle.std.specs.List.{slice_get}
use Rattle.std.specs.Option.{ForSome}
use Rattle.geo_integer.specs.Bearing.{bearing_of, modifier_of}
use Rattle.geo_integer.specs.Plane.{length_of}
use Rattle.geo_integer.specs.Position.{position_of}
use Rattle.search_graph.specs.Digraph.{Weighting}
use Rattle.search_graph.specs.RoadCosts.{road_cost_ops}
use Rattle.search_graph.specs.Weighted.{IsWeighting}
use Rattle.search_graph.specs.declared.costs.WeightDurLen.{WeightDurLen}
use Rattle.edge_graph.specs.NetworkView.{NetworkView, copies_in, graph_of, stands, turn_graph, vertices_of}
use Rattle.road_turns.specs.Turn.{exits}
use Rattle.road_segments.specs.Vertex.{Vertex, opposite}
use Rattle.metric_make.specs.TrafficRows.{speed_for, turn_for, unmatched_of}
use Rattle.traffic_files.specs.declared.rows.SpeedRow.{SpeedRow}
use Rattle.traffic_files.specs.declared.rows.TurnRow.{TurnRow}
use Rattle.via_paths.specs.Forbidden.{last_of}
use Rattle.via_paths.specs.Standing.{IsCostedAlike}
use Rattle.way_profile.specs.Vehicle.{ProfileView, penalty_of}

-- the deciseconds for so many decimetres at so many thousandths of km/h, rounded down, at least 1
abbrev pub duration_of : ℕ → ℕ → ℕ
duration_of length speed = max 1 (length * 3600 / speed)

-- what so many decimetres weigh at a rate, rounded down, at least 1: tenths of the printed weight, at so many
-- thousandths of a metre for each unit of it
abbrev pub rate_weight : ℕ → ℕ → ℕ
rate_weight length rate = max 1 (length * 1000 / rate)

-- what a vertex weighs: by the rate, where there is one; else its length where the profile weighs by distance, and
-- its duration where it does not
abbrev pub vertex_weight : Bool → ℕ → ℕ → Option ℕ → ℕ
vertex_weight by_distance length duration (Some rate) = rate_weight length rate
vertex_weight by_distance length duration None = if by_distance then length else duration

abbrev pub cost_of : Bool → ℕ → ℕ → Option ℕ → WeightDurLen
cost_of by_distance length speed rate =
    let duration = duration_of length speed in
    record { weight = vertex_weight by_distance length duration rate; duration = duration; length = length }

-- what a permitted vertex of this length costs: at its own speed, or at that and the rate of the row for it; speed 0
-- closes it
abbrev pub cost_under : Bool → ℕ → ℕ → Option SpeedRow → Option WeightDurLen
cost_under by_distance length speed None = Some (cost_of by_distance length speed None)
cost_under by_distance length speed (Some row) = if row.speed == 0 then None else Some (cost_of by_distance length row.speed row.rate)

-- what a vertex of this length costs under these rows; one that is not permitted is closed
abbrev pub cost_at : Bool → List SpeedRow → ℕ → Vertex → Option WeightDurLen
cost_at by_distance speeds length v = if v.permitted then cost_under by_distance length v.speed (speed_for speeds v.tail v.head) else None

abbrev pub vertex_cost : Bool → List SpeedRow → Vertex → Option WeightDurLen
vertex_cost by_distance speeds v = cost_at by_distance speeds (length_of (position_of v.from) (position_of v.to)) v

-- the bearing of a vertex, from its tail to its head
abbrev pub bearing_along : Vertex → ℕ
bearing_along v = bearing_of (position_of v.from) (position_of v.to)

-- the penalty for the bend of a turn from d to e, by the exits of d: none where there is no choice of exits
abbrev pub bend_penalty : ProfileView → ℕ → Vertex → Vertex → ℕ
bend_penalty profile exits d e = if nat_le 2 exits then penalty_of profile (modifier_of (bearing_along d) (bearing_along e) false) else 0

-- the profile's penalty of a turn from d to e, which goes back onto its own segment or does not; a signal at the
-- head of d adds its own
abbrev pub penalty_between : ProfileView → ℕ → Bool → Vertex → Vertex → ℕ
penalty_between profile exits back d e =
    (if back then profile.u_turn_penalty else bend_penalty profile exits d e) + (if d.signal then profile.signal_penalty else 0)

-- what a turn weighs: the weight of its row, where it has one; else nothing where the profile weighs by distance, and
-- its penalty where it does not
abbrev pub turn_weight : Bool → ℕ → Option ℕ → ℕ
turn_weight by_distance penalty (Some weight) = weight
turn_weight by_distance penalty None = if by_distance then 0 else penalty

abbrev pub turn_cost_of : Bool → ℕ → Option ℕ → WeightDurLen
turn_cost_of by_distance penalty weight = record { weight = turn_weight by_distance penalty weight; duration = penalty; length = 0 }

-- what a turn costs: the penalty of a row, whole, and its weight, where there is one for the turn; else the profile's
-- penalty
abbrev pub turn_cost_under : Bool → ℕ → Option TurnRow → WeightDurLen
turn_cost_under by_distance penalty None = turn_cost_of by_distance penalty None
turn_cost_under by_distance penalty (Some row) = turn_cost_of by_distance row.penalty row.weight

-- the cost of the turn between the vertices of two numbers; nothing where there are no such vertices
abbrev pub turn_cost_at : NetworkView → List TurnRow → ℕ → ℕ → Option Vertex → Option Vertex → WeightDurLen
turn_cost_at network rows from to (Some d) (Some e) =
    turn_cost_under network.profile.by_distance (penalty_between network.profile (exits (vertices_of network) from) (to == opposite from) d e) (turn_for rows d.tail d.head e.head)
turn_cost_at network rows from to _ _ = record { weight = 0; duration = 0; length = 0 }

abbrev pub turn_cost : NetworkView → List TurnRow → ℕ × ℕ → WeightDurLen
turn_cost network rows turn = turn_cost_at network rows turn.0 turn.1 (slice_get (vertices_of network) turn.0) (slice_get (vertices_of network) turn.1)

-- a copy of a vertex costs what the vertex does: behind the costs of the vertices those of the copies
abbrev pub with_copies : NetworkView → List (Option WeightDurLen) → List (Option WeightDurLen)
with_copies network costs = costs ++ map (λ word. get_or costs (last_of word) None) (copies_in network)

-- an arc of the searched graph costs what the turn does for which it stands
abbrev pub arc_cost : NetworkView → List TurnRow → ℕ × ℕ → WeightDurLen
arc_cost network rows arc = turn_cost network rows (stands network arc.0, stands network arc.1)

-- what the metric of a network is to those who use it: the costs of the graph that is searched, and how many rows matched nothing
pub record MetricView : Type 0 where
  pub weights : Weighting WeightDurLen
  pub unmatched : ℕ

-- the metric of a network under these rows: the last row for a vertex or a turn decides, also where an earlier one has
-- a rate or a weight and it has none, else the profile. It begins with the profile, whatever metric was there before,
-- and a vertex that is closed leaves all turns as they are
abbrev pub metric_of : NetworkView → List SpeedRow → List TurnRow → MetricView
metric_of network speeds turns = record {
  weights = record {
    vertex = with_copies network (map (vertex_cost network.profile.by_distance speeds) (vertices_of network));
    arc = map (arc_cost network turns) (graph_of network).arcs;
  };
  unmatched = unmatched_of network speeds turns;
}

-- the metric of a network by the profile alone
abbrev pub base_of : NetworkView → MetricView
base_of network = metric_of network [] []

-- a weight below 2^31 and less than 2^31 deciseconds
abbrev pub IsShort : WeightDurLen → Type 0
IsShort x = (x.weight < 2 ^ 31) × (x.duration < 2 ^ 31)

-- each cost is within one unit, and that of a vertex is short
pub record AreWithinUnit (weights : Weighting WeightDurLen) : Type 0 where
  pub vertex : All (λ o. ForSome o (λ x. road_cost_ops.units x 1)) weights.vertex
  pub arc : All (λ a. road_cost_ops.units a 1) weights.arc
  pub short : All (λ o. ForSome o IsShort) weights.vertex

-- each vertex and each arc of the searched graph costs what the vertex and the turn do for which it stands
abbrev pub AreAlike : NetworkView → Weighting WeightDurLen → Type 0
AreAlike network weights = IsCostedAlike (stands network) (turn_graph network) weights (graph_of network) weights

-- what a metric of a network owes to those who search under it: its costs are a weighting of the graph that is searched, in
-- which each vertex and each arc costs what the vertex and the turn do for which it stands
pub record IsMetricOn (network : NetworkView) (weights : Weighting WeightDurLen) : Type 0 where
  pub weighting : IsWeighting road_cost_ops (graph_of network) weights
  pub alike : AreAlike network weights
