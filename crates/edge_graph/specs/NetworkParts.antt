-- For private functions: what holds of the parts of a network.
use Rattle.std.specs.Prelude.{◌≡◌, ℕ, ◌*◌, ◌<◌, ◌≤◌, ◌==◌, List, [], All, MatchOption, Option, Vec, filter, length, map, take}
use Rattle.std.specs.Global.{Global}
use Rattle.std.specs.HashMap.{HashMap, get}
use Rattle.std.specs.List.{range_with_len}
use Rattle.std.specs.Option.{option_map_or}
use Rattle.std.specs.declared.hash.FoldHasher.{FoldHasher}
use Rattle.std.specs.declared.hash.BuildHasherDefault.{BuildHasherDefault}
use Rattle.search_graph.specs.Digraph.{Digraph}
use Rattle.search_graph.specs.Faults.{AllInRange}
use Rattle.way_profile.specs.Vehicle.{IsSpeed}
use Rattle.road_segments.specs.Segment.{Segment}
use Rattle.road_turns.specs.DepartureParts.{AreDepartures}
use Rattle.road_turns.specs.Fans.{AreExits}
use Rattle.edge_graph.specs.Limits.{most_copies}
use Rattle.road_turns.specs.Limits.{most_turns}
use Rattle.road_segments.specs.Limits.{most_segments}
use Rattle.via_restrictions.specs.ViaWays.{forbidden_on}
use Rattle.road_turns.specs.Turn.{IsSimple, turns}
use Rattle.road_segments.specs.Vertex.{vertices}
use Rattle.via_paths.specs.Copies.{copies_of}
use Rattle.via_paths.specs.declared.expansion.Copies.{Copies}
use Rattle.via_paths.specs.Expansion.{expanded, expanded_arcs, standing}
use Rattle.via_paths.specs.Forbidden.{last_of}
use Rattle.via_paths.specs.Made.{AreMadeOf, ordinary_of}
use Rattle.turn_rules.specs.Rules.{RulesView}

-- the turns for which the first arcs of a graph with copies stand, of n ordinary vertices and `count` turns
abbrev pub turns_of : ℕ → ℕ → List ℕ → List (ℕ × ℕ) → List (ℕ × ℕ)
turns_of n count stands_for arcs = map (λ arc. (arc.0, standing n stands_for arc.1)) (take count arcs)

abbrev pub CopyMap : Type 0
CopyMap = HashMap ℕ (Vec ℕ Global) (BuildHasherDefault FoldHasher)

-- the copies of a vertex in the map
abbrev pub copies_in_map : CopyMap → ℕ → List ℕ
copies_in_map map v = option_map_or (λ copies. copies.items) (get (λ a b. a == b) map v) []

-- of n ordinary vertices, and copies that stand for these vertices, the map has the copies of each vertex
abbrev pub AreCopiesByVertex : ℕ → List ℕ → CopyMap → Type 0
AreCopiesByVertex n stands_for map = (v : ℕ) → copies_in_map map v ≡ filter (λ q. standing n stands_for q == v) (range_with_len n (length stands_for))

-- The graph is that of these turns with copies for the sequences, which are of three vertices or more, and the copies
-- stand for these vertices. No turn stands twice, and each is from a vertex to a vertex.
pub record IsGraphOf (n : ℕ) (turns : List (ℕ × ℕ)) (forbidden : List (List ℕ)) (stands_for : List ℕ) (graph : Digraph) : Type 0 where
  pub is : graph ≡ expanded n forbidden (copies_of forbidden) turns
  pub stand : stands_for ≡ map last_of (copies_of forbidden)
  pub simple : IsSimple turns
  pub in_range : AllInRange n turns
  pub long : All (λ s. 3 ≤ length s) forbidden
  pub ordinary : All (λ s. All (λ v. v < n) s) forbidden

-- the copies for these sequences; without copies there are no sequences
abbrev pub AreCopiesFor : ℕ → List (List ℕ) → Option Copies → Type 0
AreCopiesFor n forbidden copies = MatchOption copies (forbidden ≡ []) (AreMadeOf n forbidden)

-- both vertices of each turn are among the ordinary ones of the copies
abbrev pub AreWithin : Option Copies → List (ℕ × ℕ) → Type 0
AreWithin copies turns = MatchOption copies (Unit {0}) (λ c. All (λ t. (t.0 < ordinary_of c) × (t.1 < ordinary_of c)) turns)

-- The arcs are those of the graph of these turns with copies for the sequences, no more than there may be, and the copies
-- stand for these vertices.
pub record AreArcsOf (n : ℕ) (turns : List (ℕ × ℕ)) (forbidden : List (List ℕ)) (stands_for : List ℕ) (arcs : List (ℕ × ℕ)) : Type 0 where
  pub is : arcs ≡ expanded_arcs n forbidden (copies_of forbidden) turns
  pub stand : stands_for ≡ map last_of (copies_of forbidden)
  pub few : length arcs ≤ most_turns

-- the graph that is searched on these segments under these rules
abbrev pub searched : List Segment → RulesView → Digraph
searched segments rules = expanded (2 * length segments) (forbidden_on segments rules) (copies_of (forbidden_on segments rules)) (turns (vertices segments) rules.kept)

-- the parts belong to one network within the limits, whose speeds are in their range
pub record AreNetworkParts (segments : List Segment) (counts order : List ℕ) (graph : Digraph) (count : ℕ) (forbidden : List (List ℕ)) (stands_for : List ℕ) (copies : CopyMap) : Type 0 where
  pub few_segments : length segments ≤ most_segments
  pub few_copies : length stands_for ≤ most_copies
  pub few_arcs : length graph.arcs ≤ most_turns
  pub speeds : All (λ s. IsSpeed s.street.speed) segments
  pub exits : AreExits (vertices segments) counts
  pub departures : AreDepartures (vertices segments) order
  pub few_turns : count ≤ length graph.arcs
  pub by_vertex : AreCopiesByVertex (2 * length segments) stands_for copies
  pub is : IsGraphOf (2 * length segments) (turns_of (2 * length segments) count stands_for graph.arcs) forbidden stands_for graph
