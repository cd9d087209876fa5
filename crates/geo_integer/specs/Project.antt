-- The place on a straight segment that is nearest to a point, in 1024ths of the segment.
use Rattle.std.specs.Prelude.{ℕ, ℤ, pos, negsuc, ◌+◌, ◌*◌, ◌/◌, ◌+ℤ◌, ◌-ℤ◌, ◌*ℤ◌, ◌≤ℤ◌, ◌⊎◌, nat_le, ◌==◌, ◌||◌, if◌then◌else◌}
use Rattle.std.specs.Int.{int_div_euclid}
use Rattle.geo_integer.specs.Position.{Position}
use Rattle.geo_integer.specs.Plane.{cosine_between, east_of, north_of, plane_between}

-- the scalar product of the ways from a to b and from a to p, with the cosine half-way from a to b
abbrev pub scalar_product : Position → Position → Position → ℤ
scalar_product p a b =
    let c = cosine_between a b in
    east_of a b c *ℤ east_of a p c +ℤ north_of a b *ℤ north_of a p

-- how many 1024ths one number is of another, rounded to the nearest and kept within 0 and 1024
abbrev pub share_of : ℤ → ℕ → ℕ
share_of (negsuc part) whole = 0
share_of (pos part) whole =
    if part == 0 || whole == 0 then 0 else if nat_le whole part then 1024 else (2048 * part + whole) / (2 * whole)

-- the nearest place to p on the segment from a to b: the scalar product of the ways to b and to p over
-- that of the way to b with itself
abbrev pub place_of : Position → Position → Position → ℕ
place_of p a b = share_of (scalar_product p a b) (plane_between a b)

-- so many 1024ths of a difference, rounded to the nearest
abbrev pub part_of : ℤ → ℕ → ℤ
part_of difference at = int_div_euclid (difference *ℤ pos at +ℤ pos 512) (pos 1024)

-- a coordinate `at` 1024ths of the way from a to b
abbrev pub coordinate_at : ℤ → ℤ → ℕ → ℤ
coordinate_at a b at = a +ℤ part_of (b -ℤ a) at

-- c lies between a and b, or is one of them
abbrev pub IsBetween : ℤ → ℤ → ℤ → Type 0
IsBetween a b c = (a ≤ℤ c × c ≤ℤ b) ⊎ (b ≤ℤ c × c ≤ℤ a)

-- the position `at` 1024ths of the way from a to b
abbrev pub position_at : Position → Position → ℕ → Position
position_at a b at = record { lon = coordinate_at a.lon b.lon at; lat = coordinate_at a.lat b.lat at }
