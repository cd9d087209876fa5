-- The coordinates of a target: longitude and latitude in decimal degrees, parted by commas, the coordinates
-- by semicolons; or an encoded polyline between parentheses (OSRM's HTTP API, version 1; that they are kept in whole
-- microdegrees is this project's rule).
use Rattle.std.specs.Prelude.{ℕ, ℤ, ◌+◌, ◌-◌, ◌==◌, List, [], ◌∷◌, map, length, take, drop, codes, bytes_eq, Option, Some, None, Result, Ok, Err, if◌then◌else◌}
use Rattle.std.specs.List.{before_first, after_first, slice_split}
use Rattle.std.specs.Str.{byte}
use Rattle.decimal_text.specs.Decimal.{microdegrees_of}
use Rattle.road_base.specs.declared.coordinates.Point.{Point}
use Rattle.road_base.specs.Points.{point_at}
use Rattle.polyline_text.specs.Decoding.{decoded}
use Rattle.url_read.specs.Refusals.{bad_coordinate, bad_polyline, out_of_range}
use Rattle.url_read.specs.declared.refusals.Refusal.{Refusal}

abbrev pub pair_of : Option ℤ → Option ℤ → Option (ℤ × ℤ)
pair_of (Some lon) (Some lat) = Some (lon, lat)
pair_of _ _ = None

-- the longitude and the latitude of a coordinate in whole microdegrees, None where it is not two decimals
-- with a comma between
abbrev pub degrees_of : List ℕ → Option (ℤ × ℤ)
degrees_of coordinate = pair_of (microdegrees_of (before_first (λ b. b == byte ",") coordinate)) (microdegrees_of (after_first (λ b. b == byte ",") coordinate))

abbrev pub behind_one : {A : Type 0} → A → Result (List A) ℕ → Result (List A) ℕ
behind_one x (Ok xs) = Ok (x ∷ xs)
behind_one x (Err number) = Err (number + 1)

-- all the values, or the number, from 0, of the first place that lacks one
abbrev pub all_or_first : {A : Type 0} → List (Option A) → Result (List A) ℕ
all_or_first [] = Ok []
all_or_first (None ∷ more) = Err 0
all_or_first (Some x ∷ more) = behind_one x (all_or_first more)

abbrev pub or_refused : {A : Type 0} → (ℕ → Refusal) → Result A ℕ → Result A Refusal
or_refused refusal (Ok x) = Ok x
or_refused refusal (Err number) = Err (refusal number)

-- the longitudes and latitudes of coordinates that are listed, or the first that is not of its form
abbrev pub listed_degrees : List ℕ → Result (List (ℤ × ℤ)) Refusal
listed_degrees coordinates = or_refused bad_coordinate (all_or_first (map degrees_of (slice_split (λ b. b == byte ";") coordinates)))

-- what stands before the `)` at the end of a text, None where the text ends otherwise
abbrev pub closed : List ℕ → Option (List ℕ)
closed text = if bytes_eq (drop (length text - 1) text) (codes ")") then Some (take (length text - 1) text) else None

-- those of a polyline of so many digits, or where its first fault is, counted from the opening parenthesis on
abbrev pub polyline_degrees : ℕ → Option (List ℕ) → Result (List (ℤ × ℤ)) Refusal
polyline_degrees digits None = Err (bad_coordinate 0)
polyline_degrees digits (Some text) = or_refused bad_polyline (decoded digits text)

-- those of coordinates: `polyline(..)` to 5 digits, `polyline6(..)` to 6, or a list
abbrev pub degrees_in : List ℕ → Result (List (ℤ × ℤ)) Refusal
degrees_in coordinates =
    if bytes_eq (take 9 coordinates) (codes "polyline(") then polyline_degrees 5 (closed (drop 9 coordinates))
    else (if bytes_eq (take 10 coordinates) (codes "polyline6(") then polyline_degrees 6 (closed (drop 10 coordinates))
    else listed_degrees coordinates)

-- the points there, or the first coordinate that is not on the Earth
abbrev pub points_at : List (ℤ × ℤ) → Result (List Point) Refusal
points_at degrees = or_refused out_of_range (all_or_first (map (λ d. point_at d.0 d.1) degrees))
