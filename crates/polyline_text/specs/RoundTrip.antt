-- What is encoded is the text of the points that were given, up to the rounding of 5 digits.
use Rattle.std.specs.Prelude.{ℤ, pos, ◌*ℤ◌, ◌+ℤ◌, List, map}
use Rattle.std.specs.Int.{int_div_euclid}
use Rattle.road_base.specs.declared.coordinates.Point.{Point}
use Rattle.polyline_text.specs.Encoding.{encoded}
use Rattle.polyline_text.specs.Grammar.{IsPath}

-- with 6 digits the text is that of the points themselves
abbrev pub GivesBackPoints : List Point → Type 0
GivesBackPoints points = IsPath 6 (encoded 6 points) (map (λ p. (p.lon, p.lat)) points)

-- a coordinate rounded to ten microdegrees, halves upwards
abbrev pub to_tens : ℤ → ℤ
to_tens v = pos 10 *ℤ int_div_euclid (v +ℤ pos 5) (pos 10)

-- with 5 digits it is that of the points rounded to ten microdegrees
abbrev pub GivesBackRounded : List Point → Type 0
GivesBackRounded points = IsPath 5 (encoded 5 points) (map (λ p. (to_tens p.lon, to_tens p.lat)) points)
