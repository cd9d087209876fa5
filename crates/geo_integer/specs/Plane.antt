-- Lengths on the Earth by whole numbers. Near a latitude the Earth is taken for a plane on which a
-- degree of longitude is as much shorter than one of latitude as the cosine says (this project's rule).
use Rattle.std.specs.Prelude.{ℕ, ℤ, pos, ◌+◌, ◌-◌, ◌*◌, ◌/◌, ◌+ℤ◌, ◌-ℤ◌, ◌*ℤ◌, max, unsigned_abs}
use Rattle.std.specs.Int.{int_div_euclid}
use Rattle.geo_integer.specs.Position.{Position}
use Rattle.geo_integer.specs.Root.{root_of}

abbrev pub squared : ℕ → ℕ
squared n = n * n

-- the cosine of a latitude in 65536ths, rounded down: Bhaskara's approximation
-- (180^2 - 4x^2) / (180^2 + x^2) with x in microdegrees
abbrev pub cosine_of : ℤ → ℕ
cosine_of lat = 65536 * (32400000000000000 - 4 * squared (unsigned_abs lat)) / (32400000000000000 + squared (unsigned_abs lat))

-- the latitude half-way between two, rounded down
abbrev pub middle_latitude : ℤ → ℤ → ℤ
middle_latitude a b = int_div_euclid (a +ℤ b) (pos 2)

-- the cosine half-way between two positions
abbrev pub cosine_between : Position → Position → ℕ
cosine_between a b = cosine_of (middle_latitude a.lat b.lat)

-- the way from a to b in 65536ths of a microdegree of latitude, eastwards and northwards, where a degree
-- of longitude is c 65536ths of one of latitude
abbrev pub east_of : Position → Position → ℕ → ℤ
east_of a b c = (b.lon -ℤ a.lon) *ℤ pos c

abbrev pub north_of : Position → Position → ℤ
north_of a b = (b.lat -ℤ a.lat) *ℤ pos 65536

-- the square of a distance in 65536ths of a microdegree of latitude, from its differences of longitude
-- and latitude in microdegrees and the cosine in 65536ths
abbrev pub plane_of : ℤ → ℤ → ℕ → ℕ
plane_of dx dy c = squared (unsigned_abs dx * c) + squared (unsigned_abs dy * 65536)

-- that square for two positions, with the cosine half-way between them
abbrev pub plane_between : Position → Position → ℕ
plane_between a b = plane_of (b.lon -ℤ a.lon) (b.lat -ℤ a.lat) (cosine_between a b)

-- the distance of two positions in decimetres, rounded down; a degree of latitude is 1111950 of them
abbrev pub distance_of : Position → Position → ℕ
distance_of a b = root_of (plane_between a b) * 111195 / 6553600000

-- the length of the road segment between two positions in decimetres, at least 1
abbrev pub length_of : Position → Position → ℕ
length_of a b = max 1 (distance_of a b)
