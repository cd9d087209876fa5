-- Google's Encoded Polyline Algorithm Format (developers.google.com/maps/documentation/utilities/
-- polylinealgorithm): latitude before longitude, each as the difference from the point before. To 5
-- digits it is Google's; 6 digits are OSRM's `polyline6`. How microdegrees are rounded to 5 digits
-- is this project's rule.
use Rattle.std.specs.Prelude.{ℕ, suc, zero, ℤ, pos, negsuc, ◌+◌, ◌*◌, ◌/◌, ◌%◌, ◌+ℤ◌, ◌-ℤ◌, List, [], ◌∷◌, ◌++◌, nat_lt, ◌==◌, if◌then◌else◌}
use Rattle.std.specs.Int.{int_div_euclid}
use Rattle.road_base.specs.declared.coordinates.Point.{Point}

-- a coordinate in microdegrees as a whole number of its last digit: to 5 digits
-- `floor((v + 5) / 10)`, to 6 digits itself
abbrev pub rounded : ℕ → ℤ → ℤ
rounded digits v = if digits == 5 then int_div_euclid (v +ℤ pos 5) (pos 10) else v

-- shifted left by one bit, and inverted if negative: 0, -1, 1, -2, .. become 0, 1, 2, 3, ..
abbrev pub folded : ℤ → ℕ
folded (pos n) = 2 * n
folded (negsuc n) = 2 * n + 1

-- groups of five bits, the lowest first, each plus 63, and 32 more where another follows; at most
-- so many groups
unfoldable pub groups_text : ℕ → ℕ → List ℕ
groups_text zero n = []
groups_text (suc k) n =
    if nat_lt n 32 then (63 + n) ∷ [] else (95 + n % 32) ∷ groups_text k (n / 32)

-- a difference; seven groups are enough for any two coordinates
abbrev pub difference_text : ℤ → List ℕ
difference_text z = groups_text 7 (folded z)

-- the points behind one whose rounded coordinates are these
unfoldable pub text_from : ℕ → ℤ → ℤ → List Point → List ℕ
text_from digits lat lon [] = []
text_from digits lat lon (p ∷ points) =
    difference_text (rounded digits p.lat -ℤ lat) ++ difference_text (rounded digits p.lon -ℤ lon)
    ++ text_from digits (rounded digits p.lat) (rounded digits p.lon) points

-- the text of a list of points, which begins at 0, 0
abbrev pub encoded : ℕ → List Point → List ℕ
encoded digits points = text_from digits (pos 0) (pos 0) points
