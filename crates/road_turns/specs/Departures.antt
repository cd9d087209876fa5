-- Which vertices leave a node, whether the vehicle may use them or not.
use Rattle.std.specs.Prelude.{ℕ, ℤ, List, map, filter}
use Rattle.std.specs.Ordering.{int_eq}
use Rattle.road_turns.specs.Turn.{numbered}
use Rattle.road_segments.specs.Vertex.{Vertex}

-- the vertices that leave a node, permitted or not, in the order of their numbers
abbrev pub vertices_from : List Vertex → ℤ → List ℕ
vertices_from vs node = map (λ e. e.0) (filter (λ e. int_eq e.1.tail node) (numbered vs))
