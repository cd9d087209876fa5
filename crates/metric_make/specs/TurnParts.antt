-- For private functions: the two parts of the profile's penalty of a turn, for the turning and for the waiting at a
-- signal, and the row that decides in their place.
use Rattle.std.specs.Prelude.{ℕ, ◌==◌, List, Option, Some, None, if◌then◌else◌}
use Rattle.edge_graph.specs.NetworkView.{NetworkView, vertices_of}
use Rattle.road_turns.specs.Turn.{exits}
use Rattle.road_segments.specs.Vertex.{Vertex, opposite}
use Rattle.metric_make.specs.MetricOf.{bend_penalty}
use Rattle.metric_make.specs.TrafficRows.{turn_for}
use Rattle.traffic_files.specs.declared.rows.TurnRow.{TurnRow}

abbrev pub turning_at : NetworkView → ℕ → ℕ → Option Vertex → Option Vertex → ℕ
turning_at network from to (Some d) (Some e) =
    if to == opposite from then network.profile.u_turn_penalty else bend_penalty network.profile (exits (vertices_of network) from) d e
turning_at network from to _ _ = 0

abbrev pub waiting_at : NetworkView → Option Vertex → ℕ
waiting_at network (Some d) = if d.signal then network.profile.signal_penalty else 0
waiting_at network None = 0

abbrev pub row_at : List TurnRow → Option Vertex → Option Vertex → Option TurnRow
row_at rows (Some d) (Some e) = turn_for rows d.tail d.head e.head
row_at rows _ _ = None
