-- What leaves the node between two vertices of a walk (the `bearings` and `entry` of an intersection of OSRM's route
-- service; that closed ways are told too is this project's rule).
use Rattle.std.specs.Prelude.{ℕ, ℤ, ◌==◌, ◌&&◌, Bool, List, [], Option, filter, position}
use Rattle.std.specs.List.{flat_map, list_any, range_with_len, slice_get}
use Rattle.std.specs.Option.{option_map_or}
use Rattle.road_turns.specs.Departures.{vertices_from}
use Rattle.edge_graph.specs.NetworkView.{NetworkView, vertices_of}
use Rattle.route_steps.specs.Turnings.{bearing_on}
use Rattle.route_steps.specs.declared.ways.Way.{Way}

-- vertices by their bearings; those of one bearing stay in their order
abbrev pub by_bearing : NetworkView → List ℕ → List ℕ
by_bearing network vs = flat_map (λ degrees. filter (λ v. bearing_on network v == degrees) vs) (range_with_len 0 360)

-- the vertices that leave a node, permitted or not, by their bearings and then by their numbers
abbrev pub ways_from : NetworkView → ℤ → List ℕ
ways_from network node = by_bearing network (vertices_from (vertices_of network) node)

-- those that leave the node where vertex d ends; none where there is no such vertex
unfoldable pub ways_behind : NetworkView → ℕ → List ℕ
ways_behind network d = option_map_or (λ x. ways_from network x.head) (slice_get (vertices_of network) d) []

-- whether vertex v may follow vertex d: that is, whether there is a turn from d onto v
unfoldable pub follows : NetworkView → ℕ → ℕ → Bool
follows network d v = list_any (λ turn. turn.0 == d && turn.1 == v) network.turns

-- the place of a vertex in a list, if it stands there
abbrev pub place_of : ℕ → List ℕ → Option ℕ
place_of v vs = position (λ u. u == v) vs

-- a vertex with its bearing
abbrev pub way_on : NetworkView → ℕ → Way
way_on network v = record { vertex = v; bearing = bearing_on network v }
