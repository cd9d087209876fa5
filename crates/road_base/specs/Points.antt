-- The point at a longitude and a latitude.
use Rattle.std.specs.Prelude.{ℤ, pos, negsuc, ◌≤ℤ◌, Bool, true, false, Option, Some, None, int_le, option_map}
use lib.Dec.{T}
use Rattle.road_base.specs.Earth.{IsOnEarth}
use Rattle.road_base.specs.declared.coordinates.Point.{Point}

abbrev pub test : (b : Bool) → Option (T b)
test true = Some tt
test false = None

-- the order of two numbers, where it holds
abbrev pub at_most : (a b : ℤ) → Option (a ≤ℤ b)
at_most a b = option_map (λ holds. record { le = holds }) (test (int_le a b))

-- all four bounds, where they hold
abbrev pub join : {lon lat : ℤ} → Option (negsuc 179999999 ≤ℤ lon) → Option (lon ≤ℤ pos 180000000) → Option (negsuc 89999999 ≤ℤ lat) → Option (lat ≤ℤ pos 90000000) → Option (IsOnEarth lon lat)
join (Some w) (Some e) (Some s) (Some n) = Some (record { west = w; east = e; south = s; north = n })
join _ _ _ _ = None

-- the place is on the Earth, where it is
abbrev pub on_earth : (lon lat : ℤ) → Option (IsOnEarth lon lat)
on_earth lon lat = join (at_most (negsuc 179999999) lon) (at_most lon (pos 180000000)) (at_most (negsuc 89999999) lat) (at_most lat (pos 90000000))

-- the point at these whole microdegrees, None where they are not on the Earth
unfoldable pub point_at : ℤ → ℤ → Option Point
point_at lon lat = option_map (λ there. record { lon = lon; lat = lat; in_range = there }) (on_earth lon lat)
