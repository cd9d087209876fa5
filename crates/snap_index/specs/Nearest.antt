-- The place of a segment that is nearest to a position (this project's rule).
use Rattle.std.specs.Prelude.{ℕ}
use Rattle.geo_integer.specs.Position.{Position, position_of}
use Rattle.geo_integer.specs.Plane.{plane_between}
use Rattle.geo_integer.specs.Project.{place_of, position_at}
use Rattle.road_segments.specs.Segment.{Segment}

-- the position `at` 1024ths along a segment, in the order of its way
unfoldable pub spot_on : Segment → ℕ → Position
spot_on segment at = position_at (position_of segment.from) (position_of segment.to) at

-- how far along a segment the place nearest to a position lies, in 1024ths
unfoldable pub nearest_on : Segment → Position → ℕ
nearest_on segment from = place_of from (position_of segment.from) (position_of segment.to)

-- where that place lies
abbrev pub nearest_spot : Segment → Position → Position
nearest_spot segment from = spot_on segment (nearest_on segment from)

-- the square of the distance from one position to another, with the cosine half-way between them
unfoldable pub remoteness : Position → Position → ℕ
remoteness from spot = plane_between from spot

-- the same from a position to the nearest place on a segment
abbrev pub remoteness_of : Position → Segment → ℕ
remoteness_of from segment = remoteness from (nearest_spot segment from)
