-- What a driver meets at the nodes of a walk (the `intersections` of a step of OSRM's route service). Place k of a
-- walk, behind its first vertex, is the node between its vertices k - 1 and k.
use Rattle.std.specs.Prelude.{ℕ, ◌+◌, ◌-◌, ◌%◌, ◌==◌, true, List, [], ◌∷◌, Some, None, if◌then◌else◌, map, slice_index}
use Rattle.std.specs.List.{range_with_len}
use Rattle.road_base.specs.declared.coordinates.Point.{Point}
use Rattle.edge_graph.specs.NetworkView.{NetworkView}
use Rattle.road_segments.specs.Vertex.{opposite}
use Rattle.route_steps.specs.Points.{point_in}
use Rattle.route_steps.specs.Turnings.{bearing_on}
use Rattle.route_steps.specs.Ways.{follows, place_of, ways_behind}
use Rattle.route_steps.specs.declared.intersection_lists.Intersection.{Intersection}

-- the departure along vertex v, from somewhere on it
abbrev pub departure_onto : NetworkView → Point → ℕ → Intersection
departure_onto network location v = record {
  location = location;
  bearings = bearing_on network v ∷ [];
  entry = true ∷ [];
  enter = None;
  leave = Some 0;
}

-- the node between vertices d and e: all ways that leave it, and for each whether it may follow d; the walk comes by
-- the other direction of d, and goes on by e
unfoldable pub intersection_between : NetworkView → Point → ℕ → ℕ → Intersection
intersection_between network location d e =
    let ways = ways_behind network d in
    record {
      location = location;
      bearings = map (bearing_on network) ways;
      entry = map (follows network d) ways;
      enter = place_of (opposite d) ways;
      leave = place_of e ways;
    }

-- the arrival along vertex v, somewhere on it: the one way is that back
abbrev pub arrival_on : NetworkView → Point → ℕ → Intersection
arrival_on network location v = record {
  location = location;
  bearings = (bearing_on network v + 180) % 360 ∷ [];
  entry = true ∷ [];
  enter = Some 0;
  leave = None;
}

-- the intersection at place k of a walk with these points
abbrev pub intersection_at : NetworkView → List ℕ → List Point → ℕ → Intersection
intersection_at network walk points k =
    if k == 0 then departure_onto network (point_in points 0) (slice_index walk 0)
    else intersection_between network (point_in points k) (slice_index walk (k - 1)) (slice_index walk k)

-- those from place i on that lie before place j
abbrev pub intersections_between : NetworkView → List ℕ → List Point → ℕ → ℕ → List Intersection
intersections_between network walk points i j = map (intersection_at network walk points) (range_with_len i (j - i))
