-- For private functions, and for those who hand what is found from one call to the next: how the vertices that leave a node are found: all vertices stand in the order of the nodes that they leave.
use Rattle.std.specs.Prelude.{◌≡◌, ◌<◌, ◌≤◌, ◌-◌, ◌/◌, ◌%◌, ℕ, ℤ, pos, All, List, drop, filter, length, map, take}
use Rattle.std.specs.List.{Contains, slice_get}
use Rattle.std.specs.List.Sorted.{IsNonDecreasingBy}
use Rattle.std.specs.Option.{option_map_or}
use Rattle.std.specs.Ordering.{int_cmp, is_eq, ordering_index}
use Rattle.std.specs.declared.cmp.Ordering.{Ordering}
use Rattle.std.specs.declared.cmp.Ordering.TheVariants.{Greater}
use Rattle.road_turns.specs.Departures.{vertices_from}
use Rattle.road_turns.specs.Turn.{numbered}
use Rattle.road_segments.specs.Vertex.{Vertex}
use Rattle.road_turns.specs.declared.departures.Departure.{Departure}

-- each vertex and the node that it leaves, in the order of the vertices
abbrev pub departures : List Vertex → List Departure
departures vs = map (λ e. record { node = e.1.tail; vertex = e.0 }) (numbered vs)

-- the vertex and the node that stand in one number, the id of the node above the vertex
abbrev pub departure_of : ℕ → Departure
departure_of number = record { node = pos (number / 134217728); vertex = number % 134217728 }

-- how the id of the node that vertex v leaves compares with this one; what is no vertex is behind all nodes
abbrev pub tail_cmp : List Vertex → ℤ → ℕ → Ordering
tail_cmp vs node v = option_map_or (λ x. int_cmp x.tail node) (slice_get vs v) Greater

-- all vertices stand in the order of the nodes that they leave, and those of one node in the order of their numbers
pub record AreDepartures (vs : List Vertex) (order : List ℕ) : Type 0 where
  pub as_many : length order ≡ length vs
  pub within : All (λ v. v < length vs) order
  pub every : (v : ℕ) → v < length vs → Contains order v
  pub rise : (node : ℤ) → IsNonDecreasingBy (λ v. ordering_index (tail_cmp vs node v)) order
  pub each : (node : ℤ) → filter (λ v. is_eq (tail_cmp vs node v)) order ≡ vertices_from vs node

-- at these two places the vertices that leave the node begin and end
pub record IsPlace (vs : List Vertex) (order : List ℕ) (node : ℤ) (place : ℕ × ℕ) : Type 0 where
  pub ordered : place.0 ≤ place.1
  pub within : place.1 ≤ length order
  pub between : take (place.1 - place.0) (drop place.0 order) ≡ vertices_from vs node
