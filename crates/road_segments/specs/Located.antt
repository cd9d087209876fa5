-- For private functions: how a network is made: what the nodes are, and which ways make streets.
use Rattle.std.specs.Prelude.{◌≡◌, ℕ, ℤ, ◌<◌, ◌≤◌, List, [], ◌∷◌, ◌++◌, Option, Some, None, All, length, map, unwrap_or}
use Rattle.std.specs.HashMap.{HashMap, get}
use Rattle.std.specs.List.{flat_map, slice_get}
use Rattle.std.specs.Ordering.{int_eq}
use Rattle.std.specs.declared.hash.FoldHasher.{FoldHasher}
use Rattle.std.specs.declared.hash.BuildHasherDefault.{BuildHasherDefault}
use Rattle.road_base.specs.declared.osm_objects.Object.{Object}
use Rattle.road_base.specs.declared.osm_objects.Object.TheVariants as object
use Rattle.road_base.specs.declared.osm_objects.Way.{Way}
use Rattle.way_profile.specs.Vehicle.{ProfileView, IsSpeed}
use Rattle.road_segments.specs.Segment.{Segment, segment_from, segments_along, segments_of_way}
use Rattle.road_segments.specs.declared.spots.Spot.{Spot}
use Rattle.road_segments.specs.declared.streets.Street.{Street}

-- the spots of nodes by their ids
abbrev pub SpotMap : Type 0
SpotMap = HashMap ℤ (Option Spot) (BuildHasherDefault FoldHasher)

-- the spot of the node of an id, by this map
abbrev pub spot_in : SpotMap → ℤ → Option Spot
spot_in spots id = unwrap_or (get int_eq spots id) None

-- the segment between two nodes whose spots are known
abbrev pub segment_with : Street → ℤ → ℤ → Option (Spot × Spot) → List Segment
segment_with street a b None = []
segment_with street a b (Some ends) = segment_from street a b ends.0 ends.1 ∷ []

-- the ids of the nodes of a way
abbrev pub nodes_in : Option Object → List ℤ
nodes_in None = []
nodes_in (Some (object.Node n)) = []
nodes_in (Some (object.Way w)) = w.nodes
nodes_in (Some (object.Relation r)) = []

-- the ids of the nodes of the way that stands at a place among the objects
abbrev pub nodes_at : List Object → ℕ → List ℤ
nodes_at objects place = nodes_in (slice_get objects place)

-- the ways stand at these places among the objects
abbrev pub StandAt : List Object → List ℕ → List (ℤ × Way) → Type 0
StandAt objects places ways = map (slice_get objects) places ≡ map (λ e. Some (object.Way e.1)) ways

-- the segments of streets, each through the nodes of the way at its place among the objects
abbrev pub segments_on : (ℤ → Option Spot) → List Object → List Street → List ℕ → List Segment
segments_on spot objects [] places = []
segments_on spot objects (street ∷ streets) [] = []
segments_on spot objects (street ∷ streets) (place ∷ places) =
    segments_along spot street (nodes_at objects place) ++ segments_on spot objects streets places

-- the streets and the places of their ways, which make the segments of these ways; each makes some
pub record AreRoutes (spot : ℤ → Option Spot) (objects : List Object) (profile : ProfileView) (ways : List (ℤ × Way)) (streets : List Street) (places : List ℕ) : Type 0 where
  pub as_many : length streets ≡ length places
  pub in_range : All (λ place. place < length objects) places
  pub speeds : All (λ s. IsSpeed s.speed) streets
  pub makes : segments_on spot objects streets places ≡ flat_map (λ way. segments_of_way spot profile way.1) ways
  pub some : length streets ≤ length (segments_on spot objects streets places)
