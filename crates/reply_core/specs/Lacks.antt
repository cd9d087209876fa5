-- What a request lacks under a metric that was published under a number. Of several that are lacking the first is
-- told: a number that is high enough, a place, for a route a walk, for a trip an order.
use Rattle.std.specs.Prelude.{◌≡◌, ℕ, ◌<◌, ◌≤◌, List, None}
use Rattle.std.specs.List.{AllZip}
use Rattle.road_base.specs.declared.coordinates.Point.{Point}
use Rattle.road_base.specs.declared.segments.Place.{Place}
use Rattle.geo_integer.specs.Position.{position_of}
use Rattle.url_read.specs.declared.requests.Request.{Request}
use Rattle.url_read.specs.declared.requests.RouteOptions.{RouteOptions}
use Rattle.url_read.specs.declared.requests.Service.TheVariants as service
use Rattle.url_read.specs.declared.requests.TripOptions.{TripOptions}
use Rattle.metric_make.specs.RoadMetric.{RoadMetric}
use Rattle.road_walks.specs.FirstFailure.{IsFirstFailure}
use Rattle.road_trips.specs.Trips.{IsBestThrough}
use Rattle.snap_index.specs.Snapped.{IsSnapped, HasNoPlace}
use Rattle.snap_index.specs.declared.filters.Filter.{Filter}
use Rattle.reply_core.specs.Asked.{asked_in}
use Rattle.reply_core.specs.RouteAsked.{IsBrokenBy}
use Rattle.reply_core.specs.TripAsked.{rule_of}
use Rattle.refusal_texts.specs.declared.lacks.Lack.{Lack}
use Rattle.refusal_texts.specs.declared.lacks.Lack.TheVariants as lack

-- the metric of this number is no older than the request asks
abbrev pub IsRecent : ℕ → Request → Type 0
IsRecent number request = request.since ≤ number

-- the request asks for this number, which is above that of the metric
abbrev pub IsAhead : ℕ → Request → ℕ → Type 0
IsAhead number request since = (since ≡ request.since) × (number < since)

-- the place stands for the coordinate
abbrev pub StandsFor : RoadMetric → Point × Filter → Place → Type 0
StandsFor road asked place = IsSnapped road.network.segments road.weights asked.1 (position_of asked.0) place

-- some place does
abbrev pub HasPlace : RoadMetric → Point × Filter → Type 0
HasPlace road asked = (place : Place) × StandsFor road asked place

-- none does
abbrev pub LacksPlace : RoadMetric → Point × Filter → Type 0
LacksPlace road asked = HasNoPlace road.network.segments road.weights asked.1 (position_of asked.0)

-- the coordinate of this number is the first that has no place
abbrev pub IsStray : RoadMetric → List (Point × Filter) → ℕ → Type 0
IsStray road asked number = IsFirstFailure (HasPlace road) (LacksPlace road) asked number

-- the service is `route`, which alone has legs, each coordinate has a place, and the leg of this number between these is
-- the first that is lacking, as the request asks for its legs
pub record LacksRoute (road : RoadMetric) (request : Request) (leg : ℕ) : Type 0 where
  pub own : RouteOptions
  pub service : request.service ≡ service.Route own
  pub places : List Place
  pub snapped : AllZip (StandsFor road) (asked_in request) places
  pub first : IsBrokenBy own.continue_straight road places leg

-- the service is `trip`, each coordinate has a place, and each order of these that is admitted has a leg without a
-- permitted walk
pub record LacksTrips (road : RoadMetric) (request : Request) : Type 0 where
  pub own : TripOptions
  pub service : request.service ≡ service.Trip own
  pub places : List Place
  pub snapped : AllZip (StandsFor road) (asked_in request) places
  pub none : IsBestThrough road places (rule_of own) None

-- what a request lacks under the metric of a number
abbrev pub IsLack : RoadMetric → ℕ → Request → Lack → Type 0
IsLack road number request (lack.Ahead since) = IsAhead number request since
IsLack road number request (lack.Segment coordinate) = IsRecent number request × IsStray road (asked_in request) coordinate
IsLack road number request (lack.Route leg) = IsRecent number request × LacksRoute road request leg
IsLack road number request lack.Trips = IsRecent number request × LacksTrips road request
