-- The options of a query judged and read: the first that is no option of the service or not of its grammar is
-- refused, then the first list that does not fit the number of coordinates (this project's rule).
use Rattle.std.specs.Prelude.{ℕ, Bool, true, false, not, ◌==◌, ◌&&◌, List, [], codes, Option, None, Result, Ok, option_and_then, option_map}
use Rattle.std.specs.List.{find, list_any}
use Rattle.std.specs.Str.{byte}
use Rattle.option_values.specs.Values.{truth_of, radius_of, bearing_of, approach_of, hint_of, snapping_of, since_of, excluded_of, number_of, alternatives_of, route_annotations_of, every_annotation, geometries_of, overview_of, continue_straight_of, source_of, destination_of, table_annotations_of}
use Rattle.option_values.specs.Entries.{one_each, chosen_among}
use Rattle.url_read.specs.Options.{name_of, value_of, is_of, last_value_of, read_or}
use Rattle.url_read.specs.Refusals.{bad_option, and_then, or_else}
use Rattle.url_read.specs.declared.refusals.Refusal.{Refusal}
use Rattle.url_read.specs.declared.service_names.ServiceName.{ServiceName}
use Rattle.url_read.specs.declared.service_names.ServiceName.TheVariants as name
use Rattle.option_values.specs.declared.option_types.Bearing.{Bearing}
use Rattle.option_values.specs.declared.option_types.Approach.{Approach}
use Rattle.option_values.specs.declared.option_types.Snapping.TheVariants as snapping
use Rattle.option_values.specs.declared.option_types.Alternatives.TheVariants as alternatives
use Rattle.option_values.specs.declared.option_types.Geometries.TheVariants.{Polyline}
use Rattle.option_values.specs.declared.option_types.Overview.TheVariants as overview
use Rattle.option_values.specs.declared.option_types.ContinueStraight.TheVariants as straight
use Rattle.option_values.specs.declared.option_types.Source.TheVariants as source
use Rattle.option_values.specs.declared.option_types.Destination.TheVariants as destination
use Rattle.option_values.specs.declared.option_types.TableAnnotations.{TableAnnotations}
use Rattle.option_values.specs.declared.option_types.Chosen.{Chosen}
use Rattle.url_read.specs.declared.requests.Telling.{Telling}
use Rattle.url_read.specs.declared.requests.RouteOptions.{RouteOptions}
use Rattle.url_read.specs.declared.requests.TableOptions.{TableOptions}
use Rattle.url_read.specs.declared.requests.NearestOptions.{NearestOptions}
use Rattle.url_read.specs.declared.requests.TripOptions.{TripOptions}
use Rattle.url_read.specs.declared.requests.OptionValues.{OptionValues}
use Rattle.url_read.specs.declared.requests.Service.{Service}
use Rattle.url_read.specs.declared.requests.Service.TheVariants.{Route, Table, Nearest, Trip}

-- the option has a value, which its service knows; a value that is lacking is not the empty one
abbrev pub is_legal : ServiceName → List ℕ → Bool
is_legal service option = list_any (λ b. b == byte "=") option && is_of service (name_of option) (value_of option)

abbrev pub refused_for : Option (List ℕ) → Option Refusal
refused_for option = option_map (λ o. bad_option (name_of o)) option

-- the refusal for the first option that is not legal
abbrev pub options_refusal : ServiceName → List (List ℕ) → Option Refusal
options_refusal service options = refused_for (find (λ option. not (is_legal service option)) options)

abbrev pub hints_for : ℕ → List (List ℕ) → Result (List (List ℕ)) Refusal
hints_for count options = or_else (one_each [] hint_of count (last_value_of (codes "hints") options)) (bad_option (codes "hints"))

abbrev pub radiuses_for : ℕ → List (List ℕ) → Result (List (Option ℕ)) Refusal
radiuses_for count options = or_else (one_each None radius_of count (last_value_of (codes "radiuses") options)) (bad_option (codes "radiuses"))

abbrev pub bearings_for : ℕ → List (List ℕ) → Result (List (Option Bearing)) Refusal
bearings_for count options = or_else (one_each None bearing_of count (last_value_of (codes "bearings") options)) (bad_option (codes "bearings"))

abbrev pub approaches_for : ℕ → List (List ℕ) → Result (List (Option Approach)) Refusal
approaches_for count options = or_else (one_each None approach_of count (last_value_of (codes "approaches") options)) (bad_option (codes "approaches"))

-- the sources or the destinations of a table
abbrev pub chosen_for : ℕ → List ℕ → List (List ℕ) → Result Chosen Refusal
chosen_for count name options = or_else (chosen_among count (last_value_of name options)) (bad_option name)

-- what a reply tells of its routes
abbrev pub telling_of : List (List ℕ) → Telling
telling_of options = record {
  steps = read_or false truth_of (codes "steps") options;
  annotations = read_or (every_annotation false) route_annotations_of (codes "annotations") options;
  geometries = read_or Polyline geometries_of (codes "geometries") options;
  overview = read_or overview.Simplified overview_of (codes "overview") options;
}

abbrev pub route_options : List (List ℕ) → RouteOptions
route_options options = record {
  alternatives = read_or alternatives.Off alternatives_of (codes "alternatives") options;
  telling = telling_of options;
  continue_straight = read_or straight.Default continue_straight_of (codes "continue_straight") options;
}

abbrev pub trip_options : List (List ℕ) → TripOptions
trip_options options = record {
  telling = telling_of options;
  roundtrip = read_or true truth_of (codes "roundtrip") options;
  source = read_or source.Any source_of (codes "source") options;
  destination = read_or destination.Any destination_of (codes "destination") options;
}

abbrev pub table_annotations : List (List ℕ) → TableAnnotations
table_annotations options = read_or (record { duration = true; distance = false }) table_annotations_of (codes "annotations") options

abbrev pub table_options : ℕ → List (List ℕ) → Result TableOptions Refusal
table_options count options =
    and_then (chosen_for count (codes "sources") options) (λ sources.
    and_then (chosen_for count (codes "destinations") options) (λ destinations.
    Ok (record { sources = sources; destinations = destinations; annotations = table_annotations options })))

abbrev pub nearest_options : List (List ℕ) → NearestOptions
nearest_options options = record { number = read_or 1 number_of (codes "number") options }

-- a service with its own options, over so many coordinates
abbrev pub service_for : ServiceName → ℕ → List (List ℕ) → Result Service Refusal
service_for name.Route count options = Ok (Route (route_options options))
service_for name.Table count options = and_then (table_options count options) (λ own. Ok (Table own))
service_for name.Nearest count options = Ok (Nearest (nearest_options options))
service_for name.Trip count options = Ok (Trip (trip_options options))

-- the values of all options over so many coordinates, or the first list that does not fit
abbrev pub values_for : ServiceName → ℕ → List (List ℕ) → Result OptionValues Refusal
values_for service count options =
    and_then (hints_for count options) (λ hints.
    and_then (radiuses_for count options) (λ radiuses.
    and_then (bearings_for count options) (λ bearings.
    and_then (approaches_for count options) (λ approaches.
    and_then (service_for service count options) (λ own.
    Ok (record {
      service = own;
      radiuses = radiuses;
      bearings = bearings;
      approaches = approaches;
      hints = hints;
      generate_hints = read_or true truth_of (codes "generate_hints") options;
      skip_waypoints = read_or false truth_of (codes "skip_waypoints") options;
      snapping = read_or snapping.Default snapping_of (codes "snapping") options;
      since = read_or 0 since_of (codes "since") options;
      exclude = option_and_then excluded_of (last_value_of (codes "exclude") options);
    }))))))
