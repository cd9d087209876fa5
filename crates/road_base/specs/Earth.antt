-- Where on the Earth a point may lie.
use Rattle.std.specs.Prelude.{ℤ, pos, negsuc, ◌≤ℤ◌}

-- whole microdegrees within 180 degrees of longitude and 90 of latitude, either way (WGS 84);
-- `negsuc n` is one below `-n`
pub record IsOnEarth (lon lat : ℤ) : Type 0 where
  pub west : negsuc 179999999 ≤ℤ lon
  pub east : lon ≤ℤ pos 180000000
  pub south : negsuc 89999999 ≤ℤ lat
  pub north : lat ≤ℤ pos 90000000
