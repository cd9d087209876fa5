-- What tells of a walk vertex by vertex (annotations in OSRM's route service), but for what it pays.
use Rattle.std.specs.Prelude.{ℕ, ℤ, ◌*◌, ◌/◌, ◌==◌, List, ◌++◌, Option, if◌then◌else◌, option_map, take}
use Rattle.std.specs.List.{filter_map, slice_get}
use Rattle.search_graph.specs.declared.costs.WeightDurLen.{WeightDurLen}
use Rattle.road_segments.specs.Segment.{Segment}
use Rattle.road_segments.specs.Vertex.{vertices}

-- the ids of the nodes where vertex v begins and where it ends, if there is such a vertex
abbrev pub tail_of : List Segment → ℕ → Option ℤ
tail_of segments v = option_map (λ x. x.tail) (slice_get (vertices segments) v)

abbrev pub head_of : List Segment → ℕ → Option ℤ
head_of segments v = option_map (λ x. x.head) (slice_get (vertices segments) v)

-- the nodes along a walk: where its first vertex begins, and where each of its vertices ends
abbrev pub nodes_along : List Segment → List ℕ → List ℤ
nodes_along segments walk = filter_map (tail_of segments) (take 1 walk) ++ filter_map (head_of segments) walk

-- tenths of metres a second, rounded down; 0 where nothing is paid in time
abbrev pub speed_of : WeightDurLen → ℕ
speed_of cost = if cost.duration == 0 then 0 else 10 * cost.length / cost.duration
