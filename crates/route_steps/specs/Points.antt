-- Where a walk between two places leads (a leg's geometry in OSRM's route service; the rounding of the places'
-- points is this project's rule).
use Rattle.std.specs.Prelude.{ℕ, ◌-◌, pos, List, ◌++◌, Option, length, option_map, take, unwrap_or}
use Rattle.std.specs.List.{filter_map, slice_get}
use Rattle.std.specs.Option.{option_and_then, option_to_list}
use Rattle.road_base.specs.declared.coordinates.Point.{Point}
use Rattle.road_base.specs.declared.segments.Place.{Place}
use Rattle.road_base.specs.Points.{point_at}
use Rattle.geo_integer.specs.Position.{Position, position_of}
use Rattle.geo_integer.specs.Project.{position_at}
use Rattle.search_graph.specs.declared.costs.WeightDurLen.{WeightDurLen}
use Rattle.search_graph.specs.Digraph.{Weighting}
use Rattle.edge_graph.specs.NetworkView.{NetworkView}
use Rattle.road_segments.specs.Segment.{Segment}
use Rattle.road_segments.specs.Vertex.{vertices}
use Rattle.road_places.specs.Permitted.{IsPermitted}

-- the walk is permitted from p to q, under some costs of the network
abbrev pub IsWalkOn : NetworkView → Place → Place → List ℕ → Type 0
IsWalkOn network p q walk = (weights : Weighting WeightDurLen) × (d : WeightDurLen) × IsPermitted (record { network = network; weights = weights }) p q walk d

-- the point at a position, if that is on the Earth
abbrev pub point_of : Position → Option Point
point_of spot = point_at spot.lon spot.lat

-- the point at a place, if there is such a segment
abbrev pub point_on : List Segment → Place → Option Point
point_on segments place = option_and_then (λ s. point_of (position_at (position_of s.from) (position_of s.to) place.at)) (slice_get segments place.segment)

-- the point where vertex v ends, if there is such a vertex
abbrev pub end_of : List Segment → ℕ → Option Point
end_of segments v = option_map (λ x. x.to) (slice_get (vertices segments) v)

-- the points of a walk from p to q: that at p, the end of each vertex but the last, and that at q
abbrev pub points_along : List Segment → Place → Place → List ℕ → List Point
points_along segments p q walk =
    option_to_list (point_on segments p) ++ (filter_map (end_of segments) (take (length walk - 1) walk) ++ option_to_list (point_on segments q))

-- the point of no longitude and no latitude
abbrev pub origin : Point
origin = record { lon = pos 0; lat = pos 0; in_range = record { west = record { le = tt }; east = record { le = tt }; south = record { le = tt }; north = record { le = tt } } }

-- the point at place i; the origin where there is none, which no permitted walk meets
abbrev pub point_in : List Point → ℕ → Point
point_in points i = unwrap_or (slice_get points i) origin
