-- What a walk meets at its turns. Place k of a walk is where its vertex k begins.
use Rattle.std.specs.Prelude.{ℕ, ◌-◌, ◌==◌, ◌&&◌, List, [], Option, nat_le, map, slice_index}
use Rattle.std.specs.List.{find, slice_get, zip}
use Rattle.std.specs.Option.{option_map_or}
use Rattle.std.specs.Str.{bytes_eq}
use Rattle.road_base.specs.declared.directions.Modifier.{Modifier}
use Rattle.geo_integer.specs.Bearing.{modifier_of}
use Rattle.search_graph.specs.declared.costs.WeightDurLen.{WeightDurLen}
use Rattle.search_graph.specs.RoadCosts.{road_cost_ops}
use Rattle.edge_graph.specs.NetworkView.{NetworkView, vertices_of}
use Rattle.road_turns.specs.Turn.{exits}
use Rattle.road_segments.specs.Vertex.{opposite}
use Rattle.metric_make.specs.MetricOf.{bearing_along}
use Rattle.road_places.specs.Paid.{steps_of}
use Rattle.metric_make.specs.RoadMetric.{RoadMetric}
use Rattle.route_steps.specs.Maneuvers.{told, told_round}
use Rattle.route_steps.specs.Roundabouts.{is_round}
use Rattle.route_steps.specs.declared.maneuvers.ManeuverKind.{ManeuverKind}

-- the bearing of vertex v, from where it begins to where it ends; 0 where there is no such vertex
abbrev pub bearing_on : NetworkView → ℕ → ℕ
bearing_on network v = option_map_or bearing_along (slice_get (vertices_of network) v) 0

-- the name of its road; empty where there is none
abbrev pub name_on : NetworkView → ℕ → List ℕ
name_on network v = option_map_or (λ x. x.name) (slice_get (vertices_of network) v) []

-- how the turn from vertex d onto vertex e bends
abbrev pub bend_between : NetworkView → ℕ → ℕ → Modifier
bend_between network d e = modifier_of (bearing_on network d) (bearing_on network e) (e == opposite d)

-- what the table says of the turn from vertex d onto vertex e
abbrev pub told_by_table : NetworkView → ℕ → ℕ → Option (ManeuverKind × Modifier)
told_by_table network d e =
    told (e == opposite d) (nat_le 2 (exits (vertices_of network) d)) (bytes_eq (name_on network d) (name_on network e)) (bend_between network d e)

-- what is told of it
abbrev pub turn_told : NetworkView → ℕ → ℕ → Option (ManeuverKind × Modifier)
turn_told network d e = told_round (e == opposite d) (is_round network d) (is_round network e) (told_by_table network d e) (bend_between network d e)

-- what is told at place k of a walk, behind its first vertex
unfoldable pub maneuver_at : NetworkView → List ℕ → ℕ → Option (ManeuverKind × Modifier)
maneuver_at network walk k = turn_told network (slice_index walk (k - 1)) (slice_index walk k)

-- what the turn from the first vertex onto the second costs; nothing where there is none, which no permitted walk
-- meets
abbrev pub turn_paid : RoadMetric → ℕ × ℕ → WeightDurLen
turn_paid road turn =
    option_map_or (λ x. x.1) (find (λ x. x.0.0 == turn.0 && x.0.1 == turn.1) (zip road.network.turns road.weights.arc)) road_cost_ops.zero

-- what a walk pays at its turns, one from each vertex to the next: turn k is at place k + 1
abbrev pub turns_paid : RoadMetric → List ℕ → List WeightDurLen
turns_paid road walk = map (turn_paid road) (steps_of walk)
