use Rattle.std.proofs.Common.{◌≡◌, drop, map}
use Rattle.std.specs.List.{slice_get}
use Rattle.road_segments.specs.Segment.{ways_by_id}
use Rattle.road_segments.proofs.WayLemmas.{as_object, keyed}
use Rattle.road_segments.proofs.routes.way_places.Given as goal

-- the ways from object i on are in the map, each with its place
abbrev pub invariant-loop-i : goal.invariant-loop-i
invariant-loop-i l = map (keyed (slice_get l.objects)) l.ways.entries ≡ map (keyed as_object) (ways_by_id (drop l.i l.objects))
