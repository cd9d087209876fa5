-- What the nodes of a map are to a vehicle (OpenStreetMap's `barrier` and `highway=traffic_signals`; which
-- barriers close a node is the profile's to say).
use Rattle.std.specs.Prelude.{ℕ, ℤ, Bool, false, List, [], ◌∷◌, Option, None, option_map, codes, bytes_eq, if◌then◌else◌}
use Rattle.std.specs.Option.{option_map_or}
use Rattle.std.specs.Ordering.{int_eq}
use Rattle.road_base.specs.TagValue.{value_of}
use Rattle.road_base.specs.declared.osm_objects.Node.{Node}
use Rattle.road_base.specs.declared.osm_objects.Object.{Object}
use Rattle.road_base.specs.declared.osm_objects.Object.TheVariants as object
use Rattle.way_profile.specs.Vehicle.{ProfileView, is_barrier}
use Rattle.road_segments.specs.declared.spots.NodeUse.{NodeUse}
use Rattle.road_segments.specs.declared.spots.Spot.{Spot}

-- a barrier stands at the node that the vehicle does not pass
abbrev pub is_closed : ProfileView → List (List ℕ × List ℕ) → Bool
is_closed profile tags = option_map_or (is_barrier profile) (value_of tags (codes "barrier")) false

-- a traffic signal stands at the node
abbrev pub is_signal : List (List ℕ × List ℕ) → Bool
is_signal tags = option_map_or (λ value. bytes_eq value (codes "traffic_signals")) (value_of tags (codes "highway")) false

abbrev pub node_use : ProfileView → List (List ℕ × List ℕ) → NodeUse
node_use profile tags = record { closed = is_closed profile tags; signal = is_signal tags }

-- where a node lies and what it is to the vehicle; None where it has no location
abbrev pub spot_of : ProfileView → Node → Option Spot
spot_of profile node = option_map (λ p. record { point = p; usage = node_use profile node.tags }) node.point

-- the same of the first node of this id; None where there is no such node
abbrev pub spot_at : ProfileView → List Object → ℤ → Option Spot
spot_at profile [] id = None
spot_at profile (object.Node n ∷ objects) id = if int_eq n.id id then spot_of profile n else spot_at profile objects id
spot_at profile (object.Way w ∷ objects) id = spot_at profile objects id
spot_at profile (object.Relation r ∷ objects) id = spot_at profile objects id
