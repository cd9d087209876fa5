-- What the values of options stand for (OSRM's HTTP API, version 1; which numbers are too great, and that a
-- radius is kept in whole decimetres, is this project's rule). Each definition gives None for a text that is
-- not of the option's grammar.
use Rattle.std.specs.Prelude.{ℕ, ◌==◌, Bool, true, false, not, ◌&&◌, ◌||◌, List, [], ◌∷◌, length, map, codes, bytes_eq, nat_lt, nat_le, Option, Some, None, option_map, if◌then◌else◌}
use Rattle.std.specs.List.{before_first, after_first, list_all, list_any, slice_split}
use Rattle.std.specs.Str.{byte}
use Rattle.std.specs.Str.Parse.{digits_value}
use Rattle.decimal_text.specs.Numeral.{is_numeral}
use Rattle.decimal_text.specs.Decimal.{is_unsigned_decimal, scaled}
use Rattle.option_values.specs.declared.option_types.Bearing.{Bearing}
use Rattle.option_values.specs.declared.option_types.Approach.{Approach}
use Rattle.option_values.specs.declared.option_types.Approach.TheVariants.{Unrestricted}
use Rattle.option_values.specs.declared.option_types.Snapping.{Snapping}
use Rattle.option_values.specs.declared.option_types.Snapping.TheVariants as snapping
use Rattle.option_values.specs.declared.option_types.Alternatives.{Alternatives}
use Rattle.option_values.specs.declared.option_types.Alternatives.TheVariants as alternatives
use Rattle.option_values.specs.declared.option_types.RouteAnnotations.{RouteAnnotations}
use Rattle.option_values.specs.declared.option_types.Geometries.{Geometries}
use Rattle.option_values.specs.declared.option_types.Geometries.TheVariants.{Polyline, Polyline6, Geojson}
use Rattle.option_values.specs.declared.option_types.Overview.{Overview}
use Rattle.option_values.specs.declared.option_types.Overview.TheVariants as overview
use Rattle.option_values.specs.declared.option_types.ContinueStraight.{ContinueStraight}
use Rattle.option_values.specs.declared.option_types.ContinueStraight.TheVariants as straight
use Rattle.option_values.specs.declared.option_types.Source.{Source}
use Rattle.option_values.specs.declared.option_types.Source.TheVariants as source
use Rattle.option_values.specs.declared.option_types.Destination.{Destination}
use Rattle.option_values.specs.declared.option_types.Destination.TheVariants as destination
use Rattle.option_values.specs.declared.option_types.TableAnnotations.{TableAnnotations}
use Rattle.option_values.specs.declared.option_types.Chosen.{Chosen}
use Rattle.option_values.specs.declared.option_types.Chosen.TheVariants as chosen

-- `true` or `false`
abbrev pub truth_of : List ℕ → Option Bool
truth_of text = if bytes_eq text (codes "true") then Some true else (if bytes_eq text (codes "false") then Some false else None)

-- digits, of a number up to the greatest
abbrev pub number_up_to : ℕ → List ℕ → Option ℕ
number_up_to greatest text = if is_numeral text && nat_le (digits_value 10 text) greatest then Some (digits_value 10 text) else None

-- one to nine digits
abbrev pub short_number_of : List ℕ → Option ℕ
short_number_of text = if is_numeral text && nat_le (length text) 9 then Some (digits_value 10 text) else None

-- the entries of a value, parted by semicolons; an empty value has one, which is empty
abbrev pub entries_of : List ℕ → List (List ℕ)
entries_of value = slice_split (λ b. b == byte ";") value

-- all the values, None where one is lacking
abbrev pub all_some : {A : Type 0} → List (Option A) → Option (List A)
all_some [] = Some []
all_some (None ∷ more) = None
all_some (Some x ∷ more) = option_map (λ xs. x ∷ xs) (all_some more)

-- what all entries of a value stand for, None where one stands for nothing
abbrev pub all_read : {A : Type 0} → (List ℕ → Option A) → List ℕ → Option (List A)
all_read read value = all_some (map read (entries_of value))

-- a decimal without a sign, of metres, in whole decimetres: of the digits behind the point the first is kept
abbrev pub decimetres_of : List ℕ → ℕ
decimetres_of text = scaled 1 text

-- from 2^29 decimetres on, any distance will do
abbrev pub limited : ℕ → Option ℕ
limited decimetres = if nat_lt decimetres 536870912 then Some decimetres else None

-- a radius in decimetres, or any distance
abbrev pub radius_of : List ℕ → Option (Option ℕ)
radius_of text =
    if length text == 0 || bytes_eq text (codes "unlimited") then Some None
    else (if is_unsigned_decimal text then Some (limited (decimetres_of text)) else None)

abbrev pub within : Option ℕ → Option ℕ → Option (Option Bearing)
within (Some value) (Some range) = Some (Some (record { value = value; range = range }))
within _ _ = None

-- a direction of at most 360 degrees and a range of at most 180, with a comma between, or any direction
abbrev pub bearing_of : List ℕ → Option (Option Bearing)
bearing_of text =
    if length text == 0 then Some None
    else within (number_up_to 360 (before_first (λ b. b == byte ",") text)) (number_up_to 180 (after_first (λ b. b == byte ",") text))

abbrev pub approach_of : List ℕ → Option (Option Approach)
approach_of text = if length text == 0 then Some None else (if bytes_eq text (codes "unrestricted") then Some (Some Unrestricted) else None)

-- a hint may be any text
abbrev pub hint_of : List ℕ → Option (List ℕ)
hint_of text = Some text

abbrev pub snapping_of : List ℕ → Option Snapping
snapping_of text = if bytes_eq text (codes "default") then Some snapping.Default else None

abbrev pub since_of : List ℕ → Option ℕ
since_of text = number_up_to 4294967295 text

abbrev pub not_zero : Option ℕ → Option ℕ
not_zero (Some number) = if number == 0 then None else Some number
not_zero None = None

abbrev pub number_of : List ℕ → Option ℕ
number_of text = not_zero (short_number_of text)

abbrev pub alternatives_of : List ℕ → Option Alternatives
alternatives_of text =
    if bytes_eq text (codes "true") then Some alternatives.On
    else (if bytes_eq text (codes "false") then Some alternatives.Off
    else option_map alternatives.UpTo (short_number_of text))

-- the names of a value, parted by commas
abbrev pub names_of : List ℕ → List (List ℕ)
names_of text = slice_split (λ b. b == byte ",") text

-- names of classes of ways, none of which is empty
abbrev pub excluded_of : List ℕ → Option (List (List ℕ))
excluded_of text = if list_all (λ name. not (length name == 0)) (names_of text) then Some (names_of text) else None

abbrev pub is_annotation : List ℕ → Bool
is_annotation name =
    bytes_eq name (codes "distance") || bytes_eq name (codes "duration") || bytes_eq name (codes "weight")
    || bytes_eq name (codes "nodes") || bytes_eq name (codes "speed")

abbrev pub has : List (List ℕ) → List ℕ → Bool
has names wanted = list_any (λ name. bytes_eq name wanted) names

abbrev pub annotations_named : List (List ℕ) → RouteAnnotations
annotations_named names = record {
  distance = has names (codes "distance");
  duration = has names (codes "duration");
  weight = has names (codes "weight");
  nodes = has names (codes "nodes");
  speed = has names (codes "speed");
}

-- all five or none
abbrev pub every_annotation : Bool → RouteAnnotations
every_annotation given = record { distance = given; duration = given; weight = given; nodes = given; speed = given }

abbrev pub route_annotations_of : List ℕ → Option RouteAnnotations
route_annotations_of text =
    if bytes_eq text (codes "true") then Some (every_annotation true)
    else (if bytes_eq text (codes "false") then Some (every_annotation false)
    else (if list_all is_annotation (names_of text) then Some (annotations_named (names_of text)) else None))

abbrev pub geometries_of : List ℕ → Option Geometries
geometries_of text =
    if bytes_eq text (codes "polyline") then Some Polyline
    else (if bytes_eq text (codes "polyline6") then Some Polyline6
    else (if bytes_eq text (codes "geojson") then Some Geojson else None))

abbrev pub overview_of : List ℕ → Option Overview
overview_of text =
    if bytes_eq text (codes "simplified") then Some overview.Simplified
    else (if bytes_eq text (codes "full") then Some overview.Full
    else (if bytes_eq text (codes "false") then Some overview.Off else None))

abbrev pub continue_straight_of : List ℕ → Option ContinueStraight
continue_straight_of text =
    if bytes_eq text (codes "default") then Some straight.Default
    else (if bytes_eq text (codes "true") then Some straight.On
    else (if bytes_eq text (codes "false") then Some straight.Off else None))

-- a trip begins anywhere or at the first coordinate
abbrev pub source_of : List ℕ → Option Source
source_of text =
    if bytes_eq text (codes "any") then Some source.Any
    else (if bytes_eq text (codes "first") then Some source.First else None)

-- and ends anywhere or at the last
abbrev pub destination_of : List ℕ → Option Destination
destination_of text =
    if bytes_eq text (codes "any") then Some destination.Any
    else (if bytes_eq text (codes "last") then Some destination.Last else None)

-- one of the two, or both in either order
abbrev pub table_annotations_of : List ℕ → Option TableAnnotations
table_annotations_of text =
    if bytes_eq text (codes "duration") then Some (record { duration = true; distance = false })
    else (if bytes_eq text (codes "distance") then Some (record { duration = false; distance = true })
    else (if bytes_eq text (codes "duration,distance") || bytes_eq text (codes "distance,duration") then Some (record { duration = true; distance = true }) else None))

-- all coordinates, or those of these numbers
abbrev pub chosen_of : List ℕ → Option Chosen
chosen_of text = if bytes_eq text (codes "all") then Some chosen.All else option_map chosen.Only (all_read short_number_of text)
