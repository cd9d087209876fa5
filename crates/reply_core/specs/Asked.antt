-- What a request asks of the roads: its coordinates, each with the filter that its segment must pass, and which of
-- them are the sources and the destinations of a table.
use Rattle.std.specs.Prelude.{ℕ, List, map, Option, option_map}
use Rattle.std.specs.List.{flat_map, slice_get, zip}
use Rattle.std.specs.Option.{option_to_list}
use Rattle.option_values.specs.declared.option_types.Bearing.{Bearing}
use Rattle.option_values.specs.declared.option_types.Chosen.{Chosen}
use Rattle.option_values.specs.declared.option_types.Chosen.TheVariants.{All, Only}
use Rattle.road_base.specs.declared.coordinates.Point.{Point}
use Rattle.snap_index.specs.declared.filters.Filter.{Filter}
use Rattle.snap_index.specs.declared.filters.Heading.{Heading}
use Rattle.url_read.specs.declared.requests.Request.{Request}

-- a bearing that is asked for, as a heading
abbrev pub heading_of : Bearing → Heading
heading_of bearing = record { value = bearing.value; range = bearing.range }

-- a radius and a bearing, each of which may not be asked for
abbrev pub filter_of : Option ℕ × Option Bearing → Filter
filter_of (radius, bearing) = record { radius = radius; heading = option_map heading_of bearing }

-- the filters of all coordinates, in their order
abbrev pub filters_of : List (Option ℕ) → List (Option Bearing) → List Filter
filters_of radiuses bearings = map filter_of (zip radiuses bearings)

-- the coordinates in their order, each with its own
abbrev pub asked_in : Request → List (Point × Filter)
asked_in request = zip request.points (filters_of request.radiuses request.bearings)

-- the chosen ones of a list: all, or those of these numbers, in their order
abbrev pub chosen_from : {A : Type 0} → Chosen → List A → List A
chosen_from All all = all
chosen_from (Only indexes) all = flat_map (λ i. option_to_list (slice_get all i)) indexes
