-- The crate's own: what legs cost from state to state, and routes by a state at each place. A state of a place is a vertex
-- of the searched graph that stands for one of the two directions of its segment.
use Rattle.std.specs.Prelude.{◌≡◌, ℕ, List, Some, drop, length}
use Rattle.std.specs.List.{AllZip, slice_get, zip}
use Rattle.road_base.specs.declared.segments.Place.{Place}
use Rattle.metric_make.specs.RoadMetric.{RoadMetric}
use Rattle.road_places.specs.declared.walks.Route.{Route}
use Rattle.road_walks.specs.Between.{AreLegCosts, IsRouteBetween, states_of}
use Rattle.road_walks.specs.Legs.{legs_of}
use Rattle.through_query.specs.declared.legs.LegCosts.{LegCosts}

-- the table has what the leg costs from each of the states of its first place to each of those of its second
pub record IsTableOf (road : RoadMetric) (leg : Place × Place) (table : LegCosts) : Type 0 where
  pub starts : table.starts ≡ length (states_of road.network leg.0)
  pub ends : table.ends ≡ length (states_of road.network leg.1)
  pub costs : AreLegCosts road leg.0 leg.1 table.costs.items

-- a table for each leg, in their order
abbrev pub AreTables : RoadMetric → List Place → List LegCosts → Type 0
AreTables road places tables = AllZip (IsTableOf road) (legs_of places) tables

-- each leg with the numbers of the states in which it begins and ends, of one at each place
abbrev pub legs_by : List Place → List ℕ → List ((Place × Place) × (ℕ × ℕ))
legs_by places states = zip (legs_of places) (zip states (drop 1 states))

-- the route is a least one along the leg that begins and ends in the states of these numbers
pub record IsLeastBy (road : RoadMetric) (leg : (Place × Place) × (ℕ × ℕ)) (route : Route) : Type 0 where
  pub start : ℕ
  pub end : ℕ
  pub first : slice_get (states_of road.network leg.0.0) leg.1.0 ≡ Some start
  pub last : slice_get (states_of road.network leg.0.1) leg.1.1 ≡ Some end
  pub least : IsRouteBetween road leg.0.0 leg.0.1 start end (Some route)

-- such a route along each leg, in their order
abbrev pub AreRoutesBy : RoadMetric → List Place → List ℕ → List Route → Type 0
AreRoutesBy road places states routes = AllZip (IsLeastBy road) (legs_by places states) routes

-- there are such routes
abbrev pub HasRoutesBy : RoadMetric → List Place → List ℕ → Type 0
HasRoutesBy road places states = (routes : List Route) × AreRoutesBy road places states routes
