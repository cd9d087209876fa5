-- What comes of a trip between two positions under a metric.
use Rattle.std.specs.Prelude.{◌≡◌, ℕ, ◌⊎◌, List, None}
use Rattle.geo_integer.specs.Position.{Position}
use Rattle.road_base.specs.declared.segments.Place.{Place}
use Rattle.metric_make.specs.RoadMetric.{RoadMetric}
use Rattle.road_walks.specs.Least.{HasNoRoute, IsLeastRoute}
use Rattle.search_graph.specs.declared.costs.WeightDurLen.{WeightDurLen}
use Rattle.snap_index.specs.Snapped.{HasNoPlace, IsSnapped}
use Rattle.snap_index.specs.declared.filters.Filter.{Filter}
use Rattle.town_drill.specs.declared.trips.Trip.{Trip}
use Rattle.town_drill.specs.declared.trips.Trip.TheVariants.{Arrives, NoRoute, NoPlace}

-- each open segment may be snapped to
abbrev pub no_filter : Filter
no_filter = record { radius = None; heading = None }

-- the place is where the position is snapped to
abbrev pub StandsAt : RoadMetric → Position → Place → Type 0
StandsAt road at place = IsSnapped road.network.segments road.weights no_filter at place

-- the position is snapped to no place
abbrev pub HasNone : RoadMetric → Position → Type 0
HasNone road at = HasNoPlace road.network.segments road.weights no_filter at

-- a permitted walk leads from the one place to the other, and a least one takes so many deciseconds
pub record IsArrival (road : RoadMetric) (from to : Position) (deciseconds : ℕ) : Type 0 where
  pub start : Place
  pub stop : Place
  pub starts : StandsAt road from start
  pub stops : StandsAt road to stop
  pub walk : List ℕ
  pub cost : WeightDurLen
  pub least : IsLeastRoute road start stop walk cost
  pub duration : deciseconds ≡ cost.duration

-- no permitted walk leads from the one place to the other
pub record IsCutOff (road : RoadMetric) (from to : Position) : Type 0 where
  pub start : Place
  pub stop : Place
  pub starts : StandsAt road from start
  pub stops : StandsAt road to stop
  pub none : HasNoRoute road start stop

abbrev pub IsTrip : RoadMetric → Position → Position → Trip → Type 0
IsTrip road from to (Arrives deciseconds) = IsArrival road from to deciseconds
IsTrip road from to NoRoute = IsCutOff road from to
IsTrip road from to NoPlace = HasNone road from ⊎ HasNone road to
