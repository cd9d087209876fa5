-- What a road network is to those who use it.
use Rattle.std.specs.Prelude.{ℕ, ◌+◌, ◌*◌, ◌==◌, List, length, map, filter}
use Rattle.std.specs.List.{range_with_len}
use Rattle.search_graph.specs.Digraph.{Digraph}
use Rattle.via_paths.specs.Copies.{copies_of}
use Rattle.via_paths.specs.Expansion.{expanded, standing}
use Rattle.via_paths.specs.Forbidden.{last_of}
use Rattle.road_base.specs.declared.osm_objects.Object.{Object}
use Rattle.turn_rules.specs.Rules.{RulesView, rules_of}
use Rattle.way_profile.specs.Vehicle.{ProfileView}
use Rattle.road_turns.specs.Restrictions.{applied_rules}
use Rattle.road_segments.specs.Segment.{Segment, segments}
use Rattle.road_turns.specs.Turn.{turns}
use Rattle.via_restrictions.specs.ViaWays.{applied_along, forbidden_on, ignored_along}
use Rattle.road_segments.specs.Vertex.{Vertex, vertices}

-- the segments and the turns in their order, the sequences of vertices that no walk may run through, the profile of the
-- vehicle that uses them, and how many turn restrictions of the map apply to it and how many are ignored
pub record NetworkView : Type 0 where
  pub segments : List Segment
  pub turns : List (ℕ × ℕ)
  pub forbidden : List (List ℕ)
  pub profile : ProfileView
  pub applied : ℕ
  pub ignored : ℕ

-- the network of these segments under these rules, of which those over nodes apply there
abbrev pub network_with : List Segment → RulesView → ProfileView → NetworkView
network_with segments rules profile = record {
  segments = segments;
  turns = turns (vertices segments) rules.kept;
  forbidden = forbidden_on segments rules;
  profile = profile;
  applied = length rules.kept + applied_along segments rules;
  ignored = rules.ignored + ignored_along segments rules;
}

-- the network of a map for a vehicle
abbrev pub network_of : List Object → ProfileView → NetworkView
network_of objects profile =
    let pieces = segments objects profile in
    network_with pieces (applied_rules pieces (rules_of objects profile.vehicle)) profile

abbrev pub vertices_of : NetworkView → List Vertex
vertices_of network = vertices network.segments

-- the turns as a graph over the vertices: arc i is turn i
abbrev pub turn_graph : NetworkView → Digraph
turn_graph network = record { vertices = 2 * length network.segments; arcs = network.turns }

-- the words of the copies of vertices: the proper prefixes of the forbidden sequences
abbrev pub copies_in : NetworkView → List (List ℕ)
copies_in network = copies_of network.forbidden

-- the vertex that a vertex of the searched graph stands for: itself, or the last one of its copy's word
abbrev pub stands : NetworkView → ℕ → ℕ
stands network q = standing (2 * length network.segments) (map last_of (copies_in network)) q

-- the graph that is searched: that of the turns with a copy of a vertex for each way to come onto it along a forbidden
-- sequence. Arc i is turn i for each turn, though its head may be a copy; behind them come the arcs out of the copies
unfoldable pub graph_of : NetworkView → Digraph
graph_of network = expanded (2 * length network.segments) network.forbidden (copies_in network) network.turns

-- the copies of a vertex, in the order of their numbers
abbrev pub copies_at : NetworkView → ℕ → List ℕ
copies_at network v = filter (λ q. stands network q == v) (range_with_len (2 * length network.segments) (length (copies_in network)))
