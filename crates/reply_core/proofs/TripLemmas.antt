-- How an answer with a trip comes from its parts.
use Rattle.std.proofs.Common.{◌≡◌, ℕ, ◌≤◌, Bool, List, length, map, sym, ap, ap₂, subst, ◌∙◌}
use Rattle.std.specs.Prelude.{All, Some}
use Rattle.std.specs.List.{AllZip}
use Rattle.road_base.specs.declared.coordinates.Point.{Point}
use Rattle.road_base.specs.declared.segments.Place.{Place}
use Rattle.metric_make.specs.RoadMetric.{RoadMetric, road_of}
use Rattle.road_places.specs.declared.walks.Route.{Route}
use Rattle.search_graph.specs.declared.costs.WeightDurLen.{WeightDurLen}
use Rattle.edge_graph.specs.NetworkView.{NetworkView}
use Rattle.metric_make.specs.MetricOf.{MetricView}
use Rattle.refusal_texts.specs.declared.reply_codes.Code.TheVariants as code
use Rattle.reply_texts.specs.LegLaws.{IsToldInSteps}
use Rattle.reply_texts.specs.Replies.{trip_reply}
use Rattle.reply_texts.specs.RouteLegs.{legs_told}
use Rattle.reply_texts.specs.Waypoints.{trip_waypoints_of}
use Rattle.road_trips.specs.Trips.{IsBestThrough, stops_at}
use Rattle.road_walks.specs.Legs.{AreAlong, AreLeastRoutes}
use Rattle.trip_query.specs.declared.trips.Trip.{Trip}
use Rattle.url_read.specs.Request.{IsFitting, fewest, most, name_of_service}
use Rattle.url_read.specs.declared.requests.Request.{Request}
use Rattle.url_read.specs.declared.requests.Service.{Service}
use Rattle.url_read.specs.declared.requests.Service.TheVariants as service
use Rattle.url_read.specs.declared.requests.Telling.{Telling}
use Rattle.url_read.specs.declared.requests.TripOptions.{TripOptions}
use Rattle.reply_core.specs.Answers.{SaysTrip, Tells}
use Rattle.reply_core.specs.Asked.{asked_in}
use Rattle.reply_core.specs.Lacks.{IsRecent, StandsFor}
use Rattle.reply_core.specs.TripAsked.{rule_of}
use Rattle.reply_core.specs.declared.answers.Answer.{Answer}
use Rattle.reply_core.proofs.AnswerLemmas.{road-same}

-- a request for a trip has two to nine coordinates
pub trip-count : (request : Request) (own : TripOptions) → request.service ≡ service.Trip own → IsFitting request → (2 ≤ length request.points) × (length request.points ≤ 9)
trip-count request own is fitting = (
  subst (λ (s : Service). fewest (name_of_service s) ≤ length request.points) is fitting.least,
  subst (λ (s : Service). length request.points ≤ most (name_of_service s)) is fitting.most,
)

-- the reply under one road is that under the same one
pub trip-told : (number : ℕ) (skip : Bool) (telling : Telling) (points : List Point) (road : RoadMetric) (network : NetworkView) (base : MetricView) (places given stops stopped : List Place) (order ordered : List ℕ) (routes walked : List Route)
    → network ≡ road.network → base.weights ≡ road.weights → given ≡ places → stopped ≡ stops → ordered ≡ order → walked ≡ routes
    → trip_reply number skip telling network.profile (legs_told (road_of network base) stopped walked) (trip_waypoints_of network.segments points given ordered) ≡ trip_reply number skip telling road.network.profile (legs_told road stops routes) (trip_waypoints_of road.network.segments points places order)
trip-told number skip telling points road network base places given stops stopped order ordered routes walked n w p s o r =
    ap (λ (x : RoadMetric). trip_reply number skip telling x.network.profile (legs_told x stopped walked) (trip_waypoints_of x.network.segments points given ordered)) (road-same road network base n w)
    ∙ ap₂ (λ (x : List Place) (y : List ℕ). trip_reply number skip telling road.network.profile (legs_told road stopped walked) (trip_waypoints_of road.network.segments points x y)) p o
    ∙ ap₂ (λ (x : List Place) (y : List Route). trip_reply number skip telling road.network.profile (legs_told road x y) (trip_waypoints_of road.network.segments points places order)) s r

-- the answer has just these places, this trip and these routes
pub says-trip : (road : RoadMetric) (number : ℕ) (request : Request) (own : TripOptions) (answer : Answer) (places stops : List Place) (trip : Trip WeightDurLen) (routes : List Route)
    → IsRecent number request → AllZip (StandsFor road) (asked_in request) places → IsBestThrough road places (rule_of own) (Some trip) → stops ≡ stops_at places own.roundtrip trip.order
    → AreAlong road stops routes → AreLeastRoutes road stops routes → All IsToldInSteps (legs_told road stops routes) → answer.places ≡ places → answer.walks ≡ map (λ (route : Route). route.walk) routes
    → Tells answer code.Ok (trip_reply number request.skip_waypoints own.telling road.network.profile (legs_told road stops routes) (trip_waypoints_of road.network.segments request.points places trip.order))
    → SaysTrip road number request own answer
says-trip road number request own answer places stops trip routes recent snapped best is along least in_steps p walks tells =
    let back = sym p in
    let stopped : stops ≡ stops_at answer.places own.roundtrip trip.order = is ∙ ap (λ (x : List Place). stops_at x own.roundtrip trip.order) back in
    record {
      recent = recent;
      snapped = subst (λ (x : List Place). AllZip (StandsFor road) (asked_in request) x) back snapped;
      trip = trip;
      best = subst (λ (x : List Place). IsBestThrough road x (rule_of own) (Some trip)) back best;
      routes = routes;
      along = subst (λ (x : List Place). AreAlong road x routes) stopped along;
      least = subst (λ (x : List Place). AreLeastRoutes road x routes) stopped least;
      walks = walks;
      in_steps = subst (λ (x : List Place). All IsToldInSteps (legs_told road x routes)) stopped in_steps;
      tells = subst (λ (x : List Place). Tells answer code.Ok (trip_reply number request.skip_waypoints own.telling road.network.profile (legs_told road x routes) (trip_waypoints_of road.network.segments request.points answer.places trip.order))) stopped
          (subst (λ (x : List Place). Tells answer code.Ok (trip_reply number request.skip_waypoints own.telling road.network.profile (legs_told road stops routes) (trip_waypoints_of road.network.segments request.points x trip.order))) back tells);
    }
