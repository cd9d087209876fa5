-- What an answer to a target, or to a line, is, over a road network under one metric that was published under
-- a number. The cases exclude each other and leave nothing out: the line is of no form; the target is refused;
-- the classes that the request excludes are no set of the profile; and, under the metric that avoids this set, the
-- request asks for a higher number; a coordinate has no place; a leg of a route has no permitted walk, or
-- no one walk leads up to its end where the legs are to be one, or each trip has a leg without a walk; there is what
-- the request asks for.
use Rattle.std.specs.Prelude.{◌≡◌, ℕ, ◌<◌, ◌⊎◌, List, [], ◌∷◌, All, map, Option, Some, None, Result, Ok, Err, codes, length}
use Rattle.std.proofs.Common.{inl, inr, refl}
use Rattle.std.specs.List.{AllZip}
use Rattle.road_base.specs.declared.coordinates.Point.{Point}
use Rattle.road_base.specs.declared.segments.Place.{Place}
use Rattle.option_values.specs.declared.option_types.Chosen.{Chosen}
use Rattle.geo_integer.specs.Position.{position_of}
use Rattle.search_graph.specs.declared.costs.WeightDurLen.{WeightDurLen}
use Rattle.json_text.specs.Values.{JsonValue, compact_text}
use Rattle.url_read.specs.Request.{request_of}
use Rattle.url_read.specs.declared.refusals.Refusal.{Refusal}
use Rattle.url_read.specs.declared.refusals.RefusalCode.{RefusalCode}
use Rattle.url_read.specs.declared.refusals.RefusalCode.TheVariants as refused
use Rattle.url_read.specs.declared.requests.NearestOptions.{NearestOptions}
use Rattle.url_read.specs.declared.requests.Request.{Request}
use Rattle.url_read.specs.declared.requests.RouteOptions.{RouteOptions}
use Rattle.url_read.specs.declared.requests.Service.{Service}
use Rattle.url_read.specs.declared.requests.Service.TheVariants as service
use Rattle.url_read.specs.declared.requests.TableOptions.{TableOptions}
use Rattle.url_read.specs.declared.requests.TripOptions.{TripOptions}
use Rattle.class_sets.specs.Sets.{set_among}
use Rattle.metric_make.specs.Avoiding.{avoiding}
use Rattle.metric_make.specs.RoadMetric.{RoadMetric}
use Rattle.road_places.specs.declared.walks.Route.{Route}
use Rattle.road_walks.specs.Legs.{AreAlong, AreLeastRoutes}
use Rattle.road_walks.specs.Tables.{AreRowsOf}
use Rattle.road_trips.specs.Trips.{IsBestThrough, stops_at}
use Rattle.trip_query.specs.declared.trips.Trip.{Trip}
use Rattle.snap_index.specs.Firsts.{AreFirsts}
use Rattle.snap_index.specs.declared.filters.Filter.{Filter}
use Rattle.snap_index.specs.declared.snapping.Snapped.{Snapped}
use Rattle.refusal_texts.specs.Codes.{lack_code}
use Rattle.refusal_texts.specs.Refusals.{bad_request_value, lack_value, refusal_value}
use Rattle.reply_texts.specs.Replies.{nearest_reply, route_reply, table_reply, trip_reply}
use Rattle.reply_texts.specs.LegLaws.{IsToldInSteps}
use Rattle.reply_texts.specs.RouteLegs.{legs_told}
use Rattle.reply_texts.specs.Waypoints.{trip_waypoints_of, waypoints_of}
use Rattle.refusal_texts.specs.declared.reply_codes.Code.{Code}
use Rattle.refusal_texts.specs.declared.reply_codes.Code.TheVariants as code
use Rattle.refusal_texts.specs.declared.lacks.Lack.{Lack}
use Rattle.reply_core.specs.Asked.{asked_in, chosen_from}
use Rattle.reply_core.specs.Lacks.{IsLack, IsRecent, StandsFor}
use Rattle.reply_core.specs.Request.{target_of}
use Rattle.reply_core.specs.RouteAsked.{AreLeastBy}
use Rattle.reply_core.specs.TripAsked.{rule_of}
use Rattle.reply_core.specs.declared.answers.Answer.{Answer}

-- the status of an answer of this code: 200 for what was asked for alone
abbrev pub status_of : Code → ℕ
status_of code.Ok = 200
status_of _ = 400

-- there is no other status
pub known_status : (kind : Code) → (status_of kind ≡ 200) ⊎ (status_of kind ≡ 400)
known_status code.Ok = inl refl
known_status _ = inr refl

-- an answer of this code with the text of this value
pub record Tells (answer : Answer) (kind : Code) (value : JsonValue) : Type 0 where
  pub code : answer.code ≡ kind
  pub status : answer.status ≡ status_of kind
  pub text : answer.text ≡ compact_text value

-- the same, without places and walks
pub record Refuses (answer : Answer) (kind : Code) (value : JsonValue) : Type 0 where
  pub tells : Tells answer kind value
  pub places : answer.places ≡ []
  pub walks : answer.walks ≡ []

-- what the request lacks is told
pub record SaysLack (road : RoadMetric) (number : ℕ) (request : Request) (answer : Answer) : Type 0 where
  pub what : Lack
  pub is_lack : IsLack road number request what
  pub refuses : Refuses answer (lack_code what) (lack_value number what)

-- the metric is recent enough; the places of the coordinates, a permitted walk along each leg, of which none
-- could cost less, or all of which are one walk that could not cost less, and the text of exactly these, for the vehicle of
-- the profile: a leg's line, its annotation and its steps are of its one walk, and the steps cost together what the leg
-- costs
pub record SaysRoute (road : RoadMetric) (number : ℕ) (request : Request) (own : RouteOptions) (answer : Answer) : Type 0 where
  pub recent : IsRecent number request
  pub snapped : AllZip (StandsFor road) (asked_in request) answer.places
  pub routes : List Route
  pub along : AreAlong road answer.places routes
  pub least : AreLeastBy own.continue_straight road answer.places routes
  pub walks : answer.walks ≡ map (λ route. route.walk) routes
  pub in_steps : All IsToldInSteps (legs_told road answer.places routes)
  pub tells : Tells answer code.Ok (route_reply number request.skip_waypoints own.telling road.network.profile (legs_told road answer.places routes) (waypoints_of road.network.segments request.points answer.places))

-- the waypoints of the chosen ones of a request's coordinates, which have these places
abbrev pub ends_told : RoadMetric → Request → Chosen → List Place → List JsonValue
ends_told road request which places = waypoints_of road.network.segments (chosen_from which request.points) (chosen_from which places)

-- the metric is recent enough; the places of the coordinates, for each source and each destination among them what
-- a least permitted walk from the one to the other costs, where there is one, and the text of exactly these
pub record SaysTable (road : RoadMetric) (number : ℕ) (request : Request) (own : TableOptions) (answer : Answer) : Type 0 where
  pub recent : IsRecent number request
  pub snapped : AllZip (StandsFor road) (asked_in request) answer.places
  pub rows : List (List (Option WeightDurLen))
  pub least : AreRowsOf road (chosen_from own.sources answer.places) (chosen_from own.destinations answer.places) rows
  pub walks : answer.walks ≡ []
  pub tells : Tells answer code.Ok (table_reply number request.skip_waypoints own.annotations rows (ends_told road request own.sources answer.places) (ends_told road request own.destinations answer.places))

-- the metric is recent enough; of all places for the one coordinate the nearest, as many as are asked for or as there
-- are, and the text of exactly these
pub record SaysNearest (road : RoadMetric) (number : ℕ) (request : Request) (own : NearestOptions) (answer : Answer) : Type 0 where
  pub recent : IsRecent number request
  pub coordinate : Point
  pub filter : Filter
  pub asked : asked_in request ≡ (coordinate, filter) ∷ []
  pub found : List Snapped
  pub first : AreFirsts road.network.segments road.weights filter (position_of coordinate) own.number found
  pub some : 0 < length found
  pub places : answer.places ≡ map (λ one. one.place) found
  pub walks : answer.walks ≡ []
  pub tells : Tells answer code.Ok (nearest_reply number road.network.segments coordinate answer.places)

-- the metric is recent enough; the places of the coordinates; of the trips through these the best one, by what least
-- permitted walks cost, a permitted walk along each of its legs, of which none could cost less, and the text of
-- exactly these
pub record SaysTrip (road : RoadMetric) (number : ℕ) (request : Request) (own : TripOptions) (answer : Answer) : Type 0 where
  pub recent : IsRecent number request
  pub snapped : AllZip (StandsFor road) (asked_in request) answer.places
  pub trip : Trip WeightDurLen
  pub best : IsBestThrough road answer.places (rule_of own) (Some trip)
  pub routes : List Route
  pub along : AreAlong road (stops_at answer.places own.roundtrip trip.order) routes
  pub least : AreLeastRoutes road (stops_at answer.places own.roundtrip trip.order) routes
  pub walks : answer.walks ≡ map (λ route. route.walk) routes
  pub in_steps : All IsToldInSteps (legs_told road (stops_at answer.places own.roundtrip trip.order) routes)
  pub tells : Tells answer code.Ok (trip_reply number request.skip_waypoints own.telling road.network.profile (legs_told road (stops_at answer.places own.roundtrip trip.order) routes) (trip_waypoints_of road.network.segments request.points answer.places trip.order))

-- what the service was asked for
abbrev pub SaysFound : RoadMetric → ℕ → Request → Service → Answer → Type 0
SaysFound road number request (service.Route own) answer = SaysRoute road number request own answer
SaysFound road number request (service.Table own) answer = SaysTable road number request own answer
SaysFound road number request (service.Nearest own) answer = SaysNearest road number request own answer
SaysFound road number request (service.Trip own) answer = SaysTrip road number request own answer

-- the answer to a request
abbrev pub IsReply : RoadMetric → ℕ → Request → Answer → Type 0
IsReply road number request answer = SaysLack road number request answer ⊎ SaysFound road number request request.service answer

-- the same for those who avoid the set of this number, or that there is no such set
abbrev pub IsReplyAvoiding : RoadMetric → ℕ → Request → Option ℕ → Answer → Type 0
IsReplyAvoiding road number request (Some set) answer = IsReply (avoiding (Some set) road) number request answer
IsReplyAvoiding road number request None answer = Refuses answer code.InvalidValue (refusal_value code.InvalidValue (codes "exclude"))

-- the same where the request excludes classes by their names, which are to be those of a set of the profile, or none
abbrev pub IsReplyExcluding : RoadMetric → ℕ → Request → Option (List (List ℕ)) → Answer → Type 0
IsReplyExcluding road number request (Some names) answer = IsReplyAvoiding road number request (set_among road.network.profile.excludable names) answer
IsReplyExcluding road number request None answer = IsReply road number request answer

-- the code of the answer to a target that is refused
abbrev pub code_of : RefusalCode → Code
code_of refused.InvalidUrl = code.InvalidUrl
code_of refused.InvalidService = code.InvalidService
code_of refused.InvalidVersion = code.InvalidVersion
code_of refused.InvalidOptions = code.InvalidOptions
code_of refused.InvalidQuery = code.InvalidQuery
code_of refused.InvalidValue = code.InvalidValue
code_of refused.TooBig = code.TooBig

-- the answer to a request, or to the target that was refused
abbrev pub IsRequestAnswer : RoadMetric → ℕ → Result Request Refusal → Answer → Type 0
IsRequestAnswer road number (Ok request) answer = IsReplyExcluding road number request request.exclude answer
IsRequestAnswer road number (Err refusal) answer = Refuses answer (code_of refusal.code) (refusal_value (code_of refusal.code) refusal.message)

-- the answer is one to the target
abbrev pub IsAnswer : RoadMetric → ℕ → List ℕ → Answer → Type 0
IsAnswer road number target answer = IsRequestAnswer road number (request_of target) answer

abbrev pub IsAnswerToAny : RoadMetric → ℕ → Option (List ℕ) → Answer → Type 0
IsAnswerToAny road number (Some target) answer = IsAnswer road number target answer
IsAnswerToAny road number None answer = Refuses answer code.BadRequest bad_request_value

-- the answer is one to the line: to its target, or that it is of no form
abbrev pub IsLineAnswer : RoadMetric → ℕ → List ℕ → Answer → Type 0
IsLineAnswer road number line answer = IsAnswerToAny road number (target_of line) answer
