-- The segments of a map: the pieces of its roads from one node of a way to the next (this project's
-- rule, over the objects of OpenStreetMap).
use Rattle.std.specs.Prelude.{ℤ, List, [], ◌∷◌, ◌++◌, ◌||◌, Option, Some, unwrap_or, codes, if◌then◌else◌}
use Rattle.std.specs.BTreeMap.{insert_entry}
use Rattle.std.specs.List.{flat_map}
use Rattle.std.specs.Ordering.{int_cmp, int_eq}
use Rattle.road_base.specs.TagValue.{value_of}
use Rattle.road_base.specs.declared.coordinates.Point.{Point}
use Rattle.road_base.specs.declared.osm_objects.Object.{Object}
use Rattle.road_base.specs.declared.osm_objects.Object.TheVariants as object
use Rattle.road_base.specs.declared.osm_objects.Way.{Way}
use Rattle.way_profile.specs.Vehicle.{ProfileView}
use Rattle.way_profile.specs.WayClasses.{classes_of}
use Rattle.way_profile.specs.WayRule.{way_use}
use Rattle.way_profile.specs.declared.way_uses.WayUse.{WayUse}
use Rattle.road_segments.specs.Spots.{spot_at}
use Rattle.road_segments.specs.declared.spots.NodeUse.{NodeUse}
use Rattle.road_segments.specs.declared.spots.Spot.{Spot}
use Rattle.road_segments.specs.declared.streets.Street.{Street}

-- a piece of a street from one node, its tail, to the next, its head, in the order of the way; where the
-- two lie, and what each is to the vehicle
pub record Segment : Type 0 where
  pub tail : ℤ
  pub head : ℤ
  pub from : Point
  pub to : Point
  pub at_tail : NodeUse
  pub at_head : NodeUse
  pub street : Street

-- the ways in ascending order of their ids, each with its id
abbrev pub ways_by_id : List Object → List (ℤ × Way)
ways_by_id [] = []
ways_by_id (object.Node n ∷ objects) = ways_by_id objects
ways_by_id (object.Way w ∷ objects) = insert_entry int_cmp (ways_by_id objects) w.id w
ways_by_id (object.Relation r ∷ objects) = ways_by_id objects

-- the segment from one spot to another
abbrev pub segment_from : Street → ℤ → ℤ → Spot → Spot → Segment
segment_from street a b from to = record { tail = a; head = b; from = from.point; to = to.point; at_tail = from.usage; at_head = to.usage; street = street }

-- the segment between two nodes, if both have a location
abbrev pub joined : Street → ℤ → ℤ → Option Spot → Option Spot → List Segment
joined street a b (Some from) (Some to) = segment_from street a b from to ∷ []
joined street a b _ _ = []

-- the segment between two neighbouring nodes of a way: none where they are one node, or one of them has
-- no location
abbrev pub segment_between : (ℤ → Option Spot) → Street → ℤ → ℤ → List Segment
segment_between spot street a b = if int_eq a b then [] else joined street a b (spot a) (spot b)

-- the segments through these nodes, in their order
abbrev pub segments_through : (ℤ → Option Spot) → Street → ℤ → List ℤ → List Segment
segments_through spot street a [] = []
segments_through spot street a (b ∷ more) = segment_between spot street a b ++ segments_through spot street b more

abbrev pub segments_along : (ℤ → Option Spot) → Street → List ℤ → List Segment
segments_along spot street [] = []
segments_along spot street (a ∷ more) = segments_through spot street a more

-- what a way that may be used so is to its segments; its name is empty where it has none
abbrev pub street_of : ProfileView → WayUse → Way → Street
street_of profile usage way = record {
  way = way.id;
  name = unwrap_or (value_of way.tags (codes "name")) [];
  classes = classes_of profile way.tags;
  speed = usage.speed;
  forward = usage.forward;
  backward = usage.backward;
  round = usage.round;
}

-- the segments of a way that may be used so: none where it may be used in neither direction
abbrev pub segments_used : (ℤ → Option Spot) → ProfileView → WayUse → Way → List Segment
segments_used spot profile usage way = if usage.forward || usage.backward then segments_along spot (street_of profile usage way) way.nodes else []

-- the segments of a way for a vehicle
abbrev pub segments_of_way : (ℤ → Option Spot) → ProfileView → Way → List Segment
segments_of_way spot profile way = segments_used spot profile (way_use profile way.tags) way

-- all segments: way by way in ascending order of the ways' ids
abbrev pub segments : List Object → ProfileView → List Segment
segments objects profile = flat_map (λ way. segments_of_way (spot_at profile objects) profile way.1) (ways_by_id objects)
