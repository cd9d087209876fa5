-- Replies with a result, by service (OSRM's HTTP API, version 1; the number of the metric is this project's
-- rule). The bytes of a reply are the compact text of its value.
use Rattle.std.specs.Prelude.{ℕ, Bool, not, List, [], ◌∷◌, ◌++◌, codes, map, Option}
use Rattle.road_base.specs.declared.coordinates.Point.{Point}
use Rattle.road_base.specs.declared.segments.Place.{Place}
use Rattle.search_graph.specs.declared.costs.WeightDurLen.{WeightDurLen}
use Rattle.way_profile.specs.Vehicle.{ProfileView}
use Rattle.road_segments.specs.Segment.{Segment}
use Rattle.json_text.specs.Values.{JsonValue}
use Rattle.json_text.specs.Wholes.{array_of, object_of}
use Rattle.option_values.specs.declared.option_types.TableAnnotations.{TableAnnotations}
use Rattle.url_read.specs.declared.requests.Telling.{Telling}
use Rattle.reply_texts.specs.Costs.{rows_value}
use Rattle.reply_texts.specs.Legs.{Leg, route_value}
use Rattle.reply_texts.specs.Optional.{member_if}
use Rattle.refusal_texts.specs.Refusals.{code_member, version_member}
use Rattle.reply_texts.specs.Waypoints.{neighbour_of}
use Rattle.reply_texts.specs.declared.cost_parts.CostPart.TheVariants as part
use Rattle.refusal_texts.specs.declared.reply_codes.Code.TheVariants as code

-- a result, under a metric of this number
abbrev pub found_value : ℕ → List (List ℕ × JsonValue) → JsonValue
found_value number members = object_of (code_member code.Ok ∷ version_member number ∷ members)

-- waypoints, unless they are skipped
abbrev pub waypoints_member : Bool → List ℕ → List JsonValue → List (List ℕ × JsonValue)
waypoints_member skip name waypoints = member_if (not skip) name (array_of waypoints)

-- a route of these legs, for the vehicle of this profile
unfoldable pub route_reply : ℕ → Bool → Telling → ProfileView → List Leg → List JsonValue → JsonValue
route_reply number skip telling profile legs waypoints =
    found_value number ((codes "routes", array_of (route_value telling profile legs ∷ [])) ∷ waypoints_member skip (codes "waypoints") waypoints)

-- a trip of these legs, in its order, for the vehicle of this profile
unfoldable pub trip_reply : ℕ → Bool → Telling → ProfileView → List Leg → List JsonValue → JsonValue
trip_reply number skip telling profile legs waypoints =
    found_value number ((codes "trips", array_of (route_value telling profile legs ∷ [])) ∷ waypoints_member skip (codes "waypoints") waypoints)

-- the places next to a coordinate
unfoldable pub nearest_reply : ℕ → List Segment → Point → List Place → JsonValue
nearest_reply number segments coordinate places =
    found_value number ((codes "waypoints", array_of (map (neighbour_of segments coordinate) places)) ∷ [])

-- a table: a row for each source, in it a cell for each destination
unfoldable pub table_reply : ℕ → Bool → TableAnnotations → List (List (Option WeightDurLen)) → List JsonValue → List JsonValue → JsonValue
table_reply number skip asked rows sources destinations = found_value number (
    member_if asked.duration (codes "durations") (rows_value part.Duration rows)
    ++ member_if asked.distance (codes "distances") (rows_value part.Length rows)
    ++ waypoints_member skip (codes "sources") sources
    ++ waypoints_member skip (codes "destinations") destinations
    )
