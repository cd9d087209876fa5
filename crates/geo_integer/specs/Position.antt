-- Where a point lies, as two whole numbers.
use Rattle.std.specs.Prelude.{ℤ}
use Rattle.road_base.specs.declared.coordinates.Point.{Point}

-- a longitude and a latitude in microdegrees, of any size
pub record Position : Type 0 where
  pub lon : ℤ
  pub lat : ℤ

-- where a point lies
abbrev pub position_of : Point → Position
position_of p = record { lon = p.lon; lat = p.lat }
