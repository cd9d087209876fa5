-- The line of a route (OSRM's HTTP API, version 1; GeoJSON of RFC 7946).
use Rattle.std.specs.Prelude.{List, [], ◌∷◌, codes, map, Option, Some, None, option_map}
use Rattle.road_base.specs.declared.coordinates.Point.{Point}
use Rattle.polyline_text.specs.Encoding.{encoded}
use Rattle.json_text.specs.Values.{JsonValue, text, location}
use Rattle.json_text.specs.Wholes.{array_of, object_of}
use Rattle.option_values.specs.declared.option_types.Geometries.{Geometries}
use Rattle.option_values.specs.declared.option_types.Geometries.TheVariants as geometries
use Rattle.option_values.specs.declared.option_types.Overview.{Overview}
use Rattle.option_values.specs.declared.option_types.Overview.TheVariants as overview
use Rattle.line_simplify.specs.Simplified.{simplified, tolerance_of}

-- longitude first, in degrees
abbrev pub point_value : Point → JsonValue
point_value point = location point.lon point.lat

unfoldable pub geojson_value : List Point → JsonValue
geojson_value points = object_of ((codes "coordinates", array_of (map point_value points)) ∷ (codes "type", text (codes "LineString")) ∷ [])

-- the line through these points, in the form that is asked for
abbrev pub line_value : Geometries → List Point → JsonValue
line_value geometries.Polyline points = text (encoded 5 points)
line_value geometries.Polyline6 points = text (encoded 6 points)
line_value geometries.Geojson points = geojson_value points

-- as much of a line as is asked for
abbrev pub overview_points : Overview → List Point → Option (List Point)
overview_points overview.Simplified points = Some (simplified (tolerance_of points) points)
overview_points overview.Full points = Some points
overview_points overview.Off points = None

abbrev pub overview_line : Overview → Geometries → List Point → Option JsonValue
overview_line overview form points = option_map (line_value form) (overview_points overview points)
