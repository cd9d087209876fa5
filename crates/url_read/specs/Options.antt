-- The options of a query, `name=value` parted by `&`, and which of them each service has (OSRM's HTTP API,
-- version 1; that of a repeated option the last counts is this project's rule).
use Rattle.std.specs.Prelude.{ℕ, Bool, true, false, ◌==◌, ◌||◌, List, [], ◌∷◌, length, codes, bytes_eq, Option, Some, None, is_some, unwrap_or, option_and_then, if◌then◌else◌}
use Rattle.std.specs.Option.{option_or}
use Rattle.std.specs.List.{before_first, after_first, slice_split}
use Rattle.std.specs.Str.{byte}
use Rattle.option_values.specs.Values.{truth_of, all_read, radius_of, bearing_of, approach_of, snapping_of, since_of, excluded_of, number_of, alternatives_of, route_annotations_of, geometries_of, overview_of, continue_straight_of, source_of, destination_of, table_annotations_of, chosen_of}
use Rattle.url_read.specs.declared.service_names.ServiceName.{ServiceName}
use Rattle.url_read.specs.declared.service_names.ServiceName.TheVariants.{Route, Table, Nearest, Trip}

-- the options of a query; an empty query has none, but an empty piece of a query is an option
abbrev pub options_of : List ℕ → List (List ℕ)
options_of query = if length query == 0 then [] else slice_split (λ b. b == byte "&") query

-- an option's name is what stands before its first `=`, or all of it where it has none
abbrev pub name_of : List ℕ → List ℕ
name_of option = before_first (λ b. b == byte "=") option

abbrev pub value_of : List ℕ → List ℕ
value_of option = after_first (λ b. b == byte "=") option

-- the value of an option of this name
abbrev pub value_named : List ℕ → List ℕ → Option (List ℕ)
value_named name option = if bytes_eq (name_of option) name then Some (value_of option) else None

-- the value of the last option of this name, None where there is none
abbrev pub last_value_of : List ℕ → List (List ℕ) → Option (List ℕ)
last_value_of name [] = None
last_value_of name (option ∷ more) = option_or (last_value_of name more) (value_named name option)

-- what the last value of a name stands for, or what stands for it where there is none
abbrev pub read_or : {A : Type 0} → A → (List ℕ → Option A) → List ℕ → List (List ℕ) → A
read_or default read name options = unwrap_or (option_and_then read (last_value_of name options)) default

-- an option of all services, of its grammar
abbrev pub is_common : List ℕ → List ℕ → Bool
is_common name value =
    if bytes_eq name (codes "radiuses") then is_some (all_read radius_of value)
    else (if bytes_eq name (codes "bearings") then is_some (all_read bearing_of value)
    else (if bytes_eq name (codes "approaches") then is_some (all_read approach_of value)
    else (if bytes_eq name (codes "hints") then true
    else (if bytes_eq name (codes "generate_hints") then is_some (truth_of value)
    else (if bytes_eq name (codes "skip_waypoints") then is_some (truth_of value)
    else (if bytes_eq name (codes "snapping") then is_some (snapping_of value)
    else (if bytes_eq name (codes "since") then is_some (since_of value)
    else (if bytes_eq name (codes "exclude") then is_some (excluded_of value)
    else false))))))))

-- of the services that tell of routes
abbrev pub is_of_telling : List ℕ → List ℕ → Bool
is_of_telling name value =
    if bytes_eq name (codes "steps") then is_some (truth_of value)
    else (if bytes_eq name (codes "annotations") then is_some (route_annotations_of value)
    else (if bytes_eq name (codes "geometries") then is_some (geometries_of value)
    else (if bytes_eq name (codes "overview") then is_some (overview_of value)
    else false)))

-- of `route`
abbrev pub is_of_route : List ℕ → List ℕ → Bool
is_of_route name value =
    if bytes_eq name (codes "alternatives") then is_some (alternatives_of value)
    else (if bytes_eq name (codes "continue_straight") then is_some (continue_straight_of value)
    else is_of_telling name value)

-- of `table`
abbrev pub is_of_table : List ℕ → List ℕ → Bool
is_of_table name value =
    if bytes_eq name (codes "sources") then is_some (chosen_of value)
    else (if bytes_eq name (codes "destinations") then is_some (chosen_of value)
    else (if bytes_eq name (codes "annotations") then is_some (table_annotations_of value)
    else false))

-- of `nearest`
abbrev pub is_of_nearest : List ℕ → List ℕ → Bool
is_of_nearest name value = if bytes_eq name (codes "number") then is_some (number_of value) else false

-- of `trip`
abbrev pub is_of_trip : List ℕ → List ℕ → Bool
is_of_trip name value =
    if bytes_eq name (codes "roundtrip") then is_some (truth_of value)
    else (if bytes_eq name (codes "source") then is_some (source_of value)
    else (if bytes_eq name (codes "destination") then is_some (destination_of value)
    else is_of_telling name value))

-- an option of a service, of its grammar
abbrev pub is_of : ServiceName → List ℕ → List ℕ → Bool
is_of Route name value = is_common name value || is_of_route name value
is_of Table name value = is_common name value || is_of_table name value
is_of Nearest name value = is_common name value || is_of_nearest name value
is_of Trip name value = is_common name value || is_of_trip name value
