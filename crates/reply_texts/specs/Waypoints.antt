-- What a reply tells of a coordinate's place on a road (a waypoint of OSRM's HTTP API, version 1).
use Rattle.std.specs.Prelude.{ℕ, pos, ◌==◌, List, [], ◌∷◌, ◌++◌, codes, map, Option, Some, None}
use Rattle.std.specs.List.{enumerate_from, position_or_len, slice_get, zip}
use Rattle.road_base.specs.declared.coordinates.Point.{Point}
use Rattle.road_base.specs.declared.segments.Place.{Place}
use Rattle.geo_integer.specs.Position.{Position, position_of}
use Rattle.geo_integer.specs.Plane.{distance_of}
use Rattle.geo_integer.specs.Project.{position_at}
use Rattle.road_segments.specs.Segment.{Segment}
use Rattle.json_text.specs.Values.{JsonValue, text, tenths, whole, location}
use Rattle.json_text.specs.Wholes.{array_of, object_of}

-- how far a place lies from its coordinate in decimetres, its way's name, and where it lies
abbrev pub place_members : ℕ → List ℕ → Position → List (List ℕ × JsonValue)
place_members distance name spot = (codes "distance", tenths distance) ∷ (codes "name", text name) ∷ (codes "location", location spot.lon spot.lat) ∷ []

-- the same of a place on this segment; of no segment, which no place is on, there is nothing to tell
abbrev pub members_on : Option Segment → Position → ℕ → List (List ℕ × JsonValue)
members_on None from at = []
members_on (Some segment) from at =
    let spot = position_at (position_of segment.from) (position_of segment.to) at in
    place_members (distance_of from spot) segment.street.name spot

-- a coordinate that is snapped to this place: members in front, and those of the place
unfoldable pub waypoint_value : List (List ℕ × JsonValue) → List Segment → Point → Place → JsonValue
waypoint_value front segments coordinate place = object_of (front ++ members_on (slice_get segments place.segment) (position_of coordinate) place.at)

-- a waypoint of a route or a table has nothing in front
abbrev pub waypoint_of : List Segment → Point × Place → JsonValue
waypoint_of segments (coordinate, place) = waypoint_value [] segments coordinate place

-- the waypoints of coordinates, in their order
abbrev pub waypoints_of : List Segment → List Point → List Place → List JsonValue
waypoints_of segments coordinates places = map (waypoint_of segments) (zip coordinates places)

-- the segment's two nodes, in the order of its way
abbrev pub nodes_on : Option Segment → List (List ℕ × JsonValue)
nodes_on None = []
nodes_on (Some segment) = (codes "nodes", array_of (whole segment.tail ∷ whole segment.head ∷ [])) ∷ []

-- a place next to a coordinate is told with them
abbrev pub neighbour_of : List Segment → Point → Place → JsonValue
neighbour_of segments coordinate place = waypoint_value (nodes_on (slice_get segments place.segment)) segments coordinate place

-- where a trip comes to the coordinate of this number, from 0: its place in the trip's order, and the number of the
-- trip, of which there is one
abbrev pub trip_members : List ℕ → ℕ → List (List ℕ × JsonValue)
trip_members order number = (codes "waypoint_index", whole (pos (position_or_len (λ stop. stop == number) order))) ∷ (codes "trips_index", whole (pos 0)) ∷ []

-- a waypoint of a trip, of the coordinate of this number
abbrev pub trip_waypoint_of : List Segment → List ℕ → ℕ × (Point × Place) → JsonValue
trip_waypoint_of segments order (number, (coordinate, place)) = waypoint_value (trip_members order number) segments coordinate place

-- the waypoints of a trip's coordinates, in the order of the request
abbrev pub trip_waypoints_of : List Segment → List Point → List Place → List ℕ → List JsonValue
trip_waypoints_of segments coordinates places order = map (trip_waypoint_of segments order) (enumerate_from 0 (zip coordinates places))
