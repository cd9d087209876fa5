-- Which segments a position may be snapped to: those with an open direction that pass a filter (the options
-- `bearings` and `radiuses` of OSRM's HTTP API; open directions and whole units are this project's rule).
use Rattle.std.specs.Prelude.{◌≡◌, ℕ, ◌+◌, ◌*◌, ◌%◌, ◌≤◌, ◌⊎◌, Option, Some, None}
use Rattle.geo_integer.specs.Bearing.{bearing_of}
use Rattle.geo_integer.specs.Plane.{distance_of}
use Rattle.geo_integer.specs.Position.{Position, position_of}
use Rattle.search_graph.specs.declared.costs.WeightDurLen.{WeightDurLen}
use Rattle.search_graph.specs.Digraph.{Weighting, IsOpen}
use Rattle.road_segments.specs.Segment.{Segment}
use Rattle.snap_index.specs.Nearest.{nearest_spot}
use Rattle.snap_index.specs.declared.filters.Filter.{Filter}
use Rattle.snap_index.specs.declared.filters.Heading.{Heading}

-- the bearing from one position to another, and their distance in decimetres
unfoldable pub bearing_along : Position → Position → ℕ
bearing_along tail head = bearing_of tail head

unfoldable pub decimetres_between : Position → Position → ℕ
decimetres_between from spot = distance_of from spot

-- two bearings differ by at most so many degrees round the circle: turning by no more leads from one of the
-- two to the other
abbrev pub DifferAtMost : ℕ → ℕ → ℕ → Type 0
DifferAtMost range a b = (turn : ℕ) × (turn ≤ range) × (((a + turn) % 360 ≡ b % 360) ⊎ ((b + turn) % 360 ≡ a % 360))

-- a bearing is one of the heading; each is where none is asked for
abbrev pub IsHeaded : Option Heading → ℕ → Type 0
IsHeaded None bearing = Unit {0}
IsHeaded (Some heading) bearing = DifferAtMost heading.range heading.value bearing

-- vertex v, from `tail` to `head`, may be driven along and has the heading
abbrev pub IsOpenAlong : Weighting WeightDurLen → Option Heading → ℕ → Position → Position → Type 0
IsOpenAlong w heading v tail head = ((x : WeightDurLen) × IsOpen w v x) × IsHeaded heading (bearing_along tail head)

-- some direction of segment s, from `a` to `b`, may be and has: vertex 2s is that of its way, 2s + 1 the other
abbrev pub HasDirection : Weighting WeightDurLen → Option Heading → ℕ → Position → Position → Type 0
HasDirection w heading s a b = IsOpenAlong w heading (2 * s) a b ⊎ IsOpenAlong w heading (2 * s + 1) b a

-- what lies so many decimetres away is near enough
abbrev pub IsInReach : Option ℕ → ℕ → Type 0
IsInReach None far = Unit {0}
IsInReach (Some radius) far = far ≤ radius

-- segment s is one that a position may be snapped to
abbrev pub IsKept : Weighting WeightDurLen → Filter → Position → ℕ → Segment → Type 0
IsKept w filter from s segment =
    HasDirection w filter.heading s (position_of segment.from) (position_of segment.to) × IsInReach filter.radius (decimetres_between from (nearest_spot segment from))
