-- The turns of a network: which vertex may follow which (this project's rule).
use Rattle.std.specs.Prelude.{◌≡◌, ℕ, ℤ, ◌==◌, Bool, not, ◌&&◌, ◌||◌, List, Some, map, filter, count_by, if◌then◌else◌}
use Rattle.std.specs.List.{enumerate_from, flat_map, slice_get}
use Rattle.std.specs.Option.{option_map_or}
use Rattle.std.specs.Ordering.{int_eq}
use Rattle.turn_rules.specs.Rules.{Rule}
use Rattle.road_turns.specs.Restrictions.{is_forbidden}
use Rattle.road_segments.specs.Vertex.{Vertex, opposite}

-- the vertices with their numbers
abbrev pub numbered : List Vertex → List (ℕ × Vertex)
numbered vs = enumerate_from 0 vs

-- e is a permitted vertex that leaves the node
abbrev pub leaves : ℤ → ℕ × Vertex → Bool
leaves node e = e.1.permitted && int_eq e.1.tail node

-- how many permitted vertices leave the node, the other direction of d's segment not counted
abbrev pub exits_at : List Vertex → ℤ → ℕ → ℕ
exits_at vs node d = count_by (λ e. leaves node e && not (e.0 == opposite d)) (numbered vs)

-- how many permitted vertices leave the head of d, the other direction of d's segment not counted
abbrev pub exits : List Vertex → ℕ → ℕ
exits vs d = option_map_or (λ x. exits_at vs x.head d) (slice_get vs d) 0

-- what stands at the head of d allows to go on to e: the other direction of d's segment follows only where
-- nothing else leaves there, as in a dead end, or the node is closed; any other vertex only where it is not
-- closed
abbrev pub is_way_on : List Vertex → ℕ × Vertex → ℕ → Bool
is_way_on vs d e = if e == opposite d.0 then (exits_at vs d.1.head d.0 == 0) || d.1.closed else not d.1.closed

-- e may follow d: both are permitted, e leaves where d ends, the node there allows it and no rule forbids it
abbrev pub is_turn : List Vertex → List Rule → ℕ × Vertex → ℕ × Vertex → Bool
is_turn vs rules d e = d.1.permitted && (leaves d.1.head e && (is_way_on vs d e.0 && not (is_forbidden rules d e)))

-- the turns from d, by the number of the vertex that follows
abbrev pub turns_from : List Vertex → List Rule → ℕ × Vertex → List (ℕ × ℕ)
turns_from vs rules d = map (λ e. (d.0, e.0)) (filter (is_turn vs rules d) (numbered vs))

-- all turns: of all pairs of vertices, by the first and then the second, those that are turns
unfoldable pub turns : List Vertex → List Rule → List (ℕ × ℕ)
turns vs rules = flat_map (turns_from vs rules) (numbered vs)

-- no pair stands twice: from one vertex onto another there is at most one turn
pub record IsSimple (turns : List (ℕ × ℕ)) : Type 0 where
  pub same : (i j d e : ℕ) → slice_get turns i ≡ Some (d, e) → slice_get turns j ≡ Some (d, e) → i ≡ j
