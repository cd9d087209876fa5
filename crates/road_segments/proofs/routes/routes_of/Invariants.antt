use Rattle.std.proofs.Common.{take}
use Rattle.road_segments.specs.Located.{AreRoutes, spot_in}
use Rattle.road_segments.specs.Segment.{ways_by_id}
use Rattle.road_segments.proofs.routes.routes_of.Given as goal

-- the ways so far have their streets
abbrev pub invariant-loop-place : goal.invariant-loop-place
invariant-loop-place l = AreRoutes (spot_in l.spots) l.objects l.profile (take l.place-index (ways_by_id l.objects)) l.streets.items l.places.items
