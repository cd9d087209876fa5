-- What a target asks for: the requests of OSRM's HTTP API, version 1. The refusals and their order are this
-- project's rule.
use Rattle.std.specs.Prelude.{◌≡◌, ◌≤◌, ℕ, ℤ, Bool, ◌==◌, not, ◌&&◌, List, length, codes, bytes_eq, nat_eq, nat_lt, Option, Some, None, Result, Ok, Err, if◌then◌else◌}
use Rattle.std.specs.List.{ends_with}
use Rattle.std.specs.Str.{is_utf8}
use Rattle.percent_encoding.specs.Percent.{percent_decode}
use Rattle.road_base.specs.declared.coordinates.Point.{Point}
use Rattle.url_read.specs.Target.{Pieces, mark_of, path_at, query_at, pieces_of, without_json}
use Rattle.url_read.specs.Coordinates.{degrees_in, points_at}
use Rattle.url_read.specs.Options.{options_of}
use Rattle.url_read.specs.Judging.{options_refusal, values_for}
use Rattle.url_read.specs.Refusals.{bad_path, bad_service, bad_version, bad_option, bad_count, too_many, too_many_results, and_then, unless}
use Rattle.url_read.specs.declared.refusals.Refusal.{Refusal}
use Rattle.url_read.specs.declared.service_names.ServiceName.{ServiceName}
use Rattle.url_read.specs.declared.service_names.ServiceName.TheVariants as name
use Rattle.option_values.specs.Entries.{AreThere}
use Rattle.url_read.specs.declared.requests.OptionValues.{OptionValues}
use Rattle.url_read.specs.declared.requests.Request.{Request}
use Rattle.url_read.specs.declared.requests.Service.{Service}
use Rattle.url_read.specs.declared.requests.Service.TheVariants.{Route, Table, Nearest, Trip}

-- the service of a name
abbrev pub service_named : List ℕ → Option ServiceName
service_named text =
    if bytes_eq text (codes "route") then Some name.Route
    else (if bytes_eq text (codes "table") then Some name.Table
    else (if bytes_eq text (codes "nearest") then Some name.Nearest
    else (if bytes_eq text (codes "trip") then Some name.Trip else None)))

abbrev pub name_of_service : Service → ServiceName
name_of_service (Route own) = name.Route
name_of_service (Table own) = name.Table
name_of_service (Nearest own) = name.Nearest
name_of_service (Trip own) = name.Trip

-- the fewest coordinates of a service
abbrev pub fewest : ServiceName → ℕ
fewest name.Route = 2
fewest name.Table = 1
fewest name.Nearest = 1
fewest name.Trip = 2

-- and the most
abbrev pub most : ServiceName → ℕ
most name.Route = 500
most name.Table = 100
most name.Nearest = 1
most name.Trip = 9

-- the most results of `nearest`
abbrev pub most_results : ℕ
most_results = 100

-- there are enough coordinates; `nearest` has exactly one
abbrev pub is_count : ServiceName → ℕ → Bool
is_count name.Route count = not (nat_lt count (fewest name.Route))
is_count name.Table count = not (nat_lt count (fewest name.Table))
is_count name.Nearest count = count == 1
is_count name.Trip count = not (nat_lt count (fewest name.Trip))

-- ninth, a service has so many coordinates at most, and then so many results
abbrev pub results_refusal : Service → Option Refusal
results_refusal (Route own) = None
results_refusal (Table own) = None
results_refusal (Nearest own) = if nat_lt most_results own.number then Some (too_many_results own.number most_results) else None
results_refusal (Trip own) = None

abbrev pub size_refusal : Service → ℕ → Option Refusal
size_refusal service count =
    if nat_lt (most (name_of_service service)) count then Some (too_many count (most (name_of_service service)))
    else results_refusal service

abbrev pub request_at : OptionValues → List Point → Request
request_at values points = record {
  points = points;
  service = values.service;
  radiuses = values.radiuses;
  bearings = values.bearings;
  approaches = values.approaches;
  hints = values.hints;
  generate_hints = values.generate_hints;
  skip_waypoints = values.skip_waypoints;
  snapping = values.snapping;
  since = values.since;
  exclude = values.exclude;
}

-- eighth, each coordinate is on the Earth
abbrev pub points_for : Service → List (ℤ × ℤ) → Result (List Point) Refusal
points_for service degrees = and_then (points_at degrees) (λ points. unless (size_refusal service (length points)) (Ok points))

abbrev pub with_values : List (ℤ × ℤ) → OptionValues → Result Request Refusal
with_values degrees values = and_then (points_for values.service degrees) (λ points. Ok (request_at values points))

-- sixth, there are enough coordinates; seventh, the options
abbrev pub with_degrees : ServiceName → List (List ℕ) → List (ℤ × ℤ) → Result Request Refusal
with_degrees service options degrees =
    if not (is_count service (length degrees)) then Err (bad_count (length degrees))
    else unless (options_refusal service options) (and_then (values_for service (length degrees) options) (with_values degrees))

-- third, the version is `v1`; fourth, the reply is JSON and not of another format; fifth, behind which a `.json`
-- is dropped, each coordinate is of its form
abbrev pub of_service : Pieces → List ℕ → Option ServiceName → Result Request Refusal
of_service pieces query None = Err (bad_service pieces.service)
of_service pieces query (Some service) =
    if not (bytes_eq pieces.version (codes "v1")) then Err (bad_version pieces.version)
    else (if ends_with nat_eq pieces.coordinates (codes ".flatbuffers") then Err (bad_option (codes "format"))
    else and_then (degrees_in (without_json pieces.coordinates)) (with_degrees service (options_of query)))

-- second, there is such a service
abbrev pub of_pieces : Option Pieces → List ℕ → Result Request Refusal
of_pieces None query = Err bad_path
of_pieces (Some pieces) query = of_service pieces query (service_named pieces.service)

-- first, the path and the query are text, and the path has its four pieces
abbrev pub of_parts : List ℕ → List ℕ → Result Request Refusal
of_parts path query = if is_utf8 path && is_utf8 query then of_pieces (pieces_of path) query else Err bad_path

-- the request of a target, or its first refusal, in the order of these nine steps; path and query are parted
-- before their percent escapes are read
unfoldable pub request_of : List ℕ → Result Request Refusal
request_of target = of_parts (percent_decode (path_at (mark_of target) target)) (percent_decode (query_at (mark_of target) target))

-- a table's sources and destinations are there; `nearest` is asked for one result or more
abbrev pub AreOwn : ℕ → Service → Type 0
AreOwn count (Route own) = Unit {0}
AreOwn count (Table own) = AreThere count own.sources × AreThere count own.destinations
AreOwn count (Nearest own) = 1 ≤ own.number
AreOwn count (Trip own) = Unit {0}

-- values with an entry for each of so many coordinates
pub record HasEach (count : ℕ) (values : OptionValues) : Type 0 where
  pub own : AreOwn count values.service
  pub radiuses : length values.radiuses ≡ count
  pub bearings : length values.bearings ≡ count
  pub approaches : length values.approaches ≡ count
  pub hints : length values.hints ≡ count

-- no more results are asked for than `nearest` may have
abbrev pub AreFew : Service → Type 0
AreFew (Route own) = Unit {0}
AreFew (Table own) = Unit {0}
AreFew (Nearest own) = own.number ≤ most_results
AreFew (Trip own) = Unit {0}

-- a request of so many coordinates as its service may have, with an entry for each
pub record IsFitting (request : Request) : Type 0 where
  pub own : AreOwn (length request.points) request.service
  pub few : AreFew request.service
  pub least : fewest (name_of_service request.service) ≤ length request.points
  pub most : length request.points ≤ most (name_of_service request.service)
  pub radiuses : length request.radiuses ≡ length request.points
  pub bearings : length request.bearings ≡ length request.points
  pub approaches : length request.approaches ≡ length request.points
  pub hints : length request.hints ≡ length request.points
