-- Which points of a line stay when it is simplified: D. H. Douglas and T. K. Peucker, Algorithms for the
-- reduction of the number of points required to represent a digitized line or its caricature, 1973. How a
-- distance is measured and which of two equal ones counts is this project's rule.
use Rattle.std.specs.Prelude.{◌≡◌, ℕ, zero, suc, ℤ, ◌-ℤ◌, ◌*◌, ◌/◌, ◌<◌, ◌≤◌, ◌==◌, max, unsigned_abs, nat_le, if◌then◌else◌, List, [], ◌∷◌, ◌++◌, length, take, fold, All, slice_index_or}
use Rattle.std.specs.Int.{int_max, int_min}
use Rattle.std.specs.List.{position_or_len, before_first, after_first}
use Rattle.road_base.specs.declared.coordinates.Point.{Point}
use Rattle.geo_integer.specs.Position.{position_of}
use Rattle.geo_integer.specs.Plane.{plane_between, squared}
use Rattle.geo_integer.specs.Project.{place_of, position_at}

-- how far off the line from a to b a point lies: the square of its distance in 65536ths of a microdegree of
-- latitude from the nearest place on the line
unfoldable pub offset_of : Point → Point → Point → ℕ
offset_of a b p =
    plane_between (position_of p) (position_at (position_of a) (position_of b) (place_of (position_of p) (position_of a) (position_of b)))

-- what a tolerance in microdegrees lets pass of these squares
unfoldable pub limit_of : ℕ → ℕ
limit_of tolerance = squared (tolerance * 65536)

-- of the points `before`, p and `after` p lies farthest off the line from a to b, farther than the limit, and is
-- the first that lies as far
pub record IsFarthest (limit : ℕ) (a b : Point) (before : List Point) (p : Point) (after : List Point) : Type 0 where
  pub beyond : limit < offset_of a b p
  pub first : All (λ q. offset_of a b q < offset_of a b p) before
  pub greatest : All (λ q. offset_of a b q ≤ offset_of a b p) after

-- the points that stay of those between a and b, which stay: none where all lie within the limit, else the
-- farthest, and what stays by the same rule on either side of it
pub data IsKept (limit : ℕ) : Point → List Point → Point → List Point → Type 0 where
  near : (a : Point) (between : List Point) (b : Point) → All (λ q. offset_of a b q ≤ limit) between → IsKept limit a between b []
  far : (a : Point) (between : List Point) (b : Point) (before : List Point) (p : Point) (after left right : List Point) → between ≡ before ++ p ∷ after → IsFarthest limit a b before p after → IsKept limit a before p left → IsKept limit p after b right → IsKept limit a between b (left ++ p ∷ right)

-- the points that stay of a line: all where there are fewer than three, else the first, the last and what stays
-- between them
pub data IsSimplified (tolerance : ℕ) : List Point → List Point → Type 0 where
  few : (points : List Point) → length points < 3 → IsSimplified tolerance points points
  line : (a : Point) (between : List Point) (b : Point) (kept : List Point) → IsKept (limit_of tolerance) a between b kept → IsSimplified tolerance (a ∷ (between ++ b ∷ [])) (a ∷ (kept ++ b ∷ []))

-- how far off the line the farthest of these points lies; 0 of none
unfoldable pub most_of : Point → Point → List Point → ℕ
most_of a b [] = 0
most_of a b (p ∷ more) = max (offset_of a b p) (most_of a b more)

-- the same rule as a function, with at most so many points that stay one inside another
unfoldable pub kept_within : ℕ → ℕ → Point → List Point → Point → List Point
kept_within zero limit a between b = []
kept_within (suc depth) limit a between b =
    if nat_le (most_of a b between) limit then [] else
    (let is_farthest = λ (q : Point). offset_of a b q == most_of a b between in
    let p = slice_index_or between (position_or_len is_farthest between) a in
    kept_within depth limit a (before_first is_farthest between) p ++ p ∷ kept_within depth limit p (after_first is_farthest between) b)

unfoldable pub kept_between : ℕ → Point → List Point → Point → List Point
kept_between limit a between b = kept_within (length between) limit a between b

-- the points that stay of a line
unfoldable pub simplified : ℕ → List Point → List Point
simplified tolerance [] = []
simplified tolerance (a ∷ []) = a ∷ []
simplified tolerance (a ∷ (b ∷ more)) =
    let last = slice_index_or (b ∷ more) (length more) b in
    a ∷ (kept_between (limit_of tolerance) a (take (length more) (b ∷ more)) last ++ last ∷ [])

-- the greatest and the least of a first value and of a coordinate of points
abbrev pub greatest_of : (Point → ℤ) → ℤ → List Point → ℤ
greatest_of coordinate first points = fold (λ (most : ℤ) (q : Point). int_max most (coordinate q)) first points

abbrev pub least_of : (Point → ℤ) → ℤ → List Point → ℤ
least_of coordinate first points = fold (λ (least : ℤ) (q : Point). int_min least (coordinate q)) first points

-- how far a coordinate reaches over points, from the least to the greatest; 0 of none
unfoldable pub extent_of : (Point → ℤ) → List Point → ℕ
extent_of coordinate [] = 0
extent_of coordinate (p ∷ more) =
    unsigned_abs (greatest_of coordinate (coordinate p) more -ℤ least_of coordinate (coordinate p) more)

-- the tolerance for a whole line: a 512th of its width or its height, whichever is greater, rounded down
unfoldable pub tolerance_of : List Point → ℕ
tolerance_of points = max (extent_of (λ p. p.lon) points) (extent_of (λ p. p.lat) points) / 512
