-- No segment is long: half way round the Earth at most.
use Rattle.std.proofs.Common.{ℕ, ℤ, zero, suc, ◌+◌, ◌-◌, ◌*◌, ◌/◌, ◌^◌, ◌<◌, ◌≤◌, ◌-ℤ◌, inl, inr, arith}
use Rattle.std.specs.Prelude.{unsigned_abs}
use Rattle.std.proofs.Math.Nat.{div-le_of_le-mul, mul-le-mul}
use Rattle.std.proofs.lemmas.Bool.{cases_lt}
use Rattle.std.proofs.lemmas.Bool.Decides.{nat_tests}
use Rattle.std.proofs.lemmas.Int.{ints}
use Rattle.geo_integer.specs.Plane.{cosine_between, cosine_of, length_of, middle_latitude, plane_between}
use Rattle.geo_integer.specs.Position.{position_of}
use Rattle.geo_integer.specs.Root.{greatest_root, root_of}
use Rattle.road_base.specs.declared.coordinates.Point.{Point}

greatest-squared : (n high : ℕ) → greatest_root n high * greatest_root n high ≤ n
unfolding greatest_root
greatest-squared n zero = omega arith
greatest-squared n (suc high) = grind (arith, nat_tests, greatest-squared n high)

root-squared : (n : ℕ) → root_of n * root_of n ≤ n
unfolding root_of
root-squared n = greatest-squared n n

-- a root is below each number whose square is greater
root-below : (n k : ℕ) → n < k * k → root_of n < k
root-below n k h = elim (cases_lt (root_of n) k) as (λ _. root_of n < k) [
  | inl below ↦ below
  | inr above ↦ absurd (omega (arith, mul-le-mul above above, root-squared n))
]

cosine-by : (s : ℕ) → 65536 * (32400000000000000 - 4 * s) / (32400000000000000 + s) ≤ 65536
cosine-by s = div-le_of_le-mul (32400000000000000 + s) (omega arith)

cosine-bound : (lat : ℤ) → cosine_of lat ≤ 65536
cosine-bound lat = cosine-by (unsigned_abs lat * unsigned_abs lat)

squares-bound : (x c y : ℕ) → x ≤ 360000000 → c ≤ 65536 → y ≤ 180000000 → x * c * (x * c) + y * 65536 * (y * 65536) < 27000000000000 * 27000000000000
squares-bound x c y p q r =
    let e : x * c ≤ 360000000 * 65536 = mul-le-mul p q in
    let n : y * 65536 ≤ 180000000 * 65536 = omega arith in
    omega (arith, mul-le-mul e e, mul-le-mul n n)

length-by : (root : ℕ) → root < 27000000000000 → root * 111195 / 6553600000 < 2 ^ 29
length-by root h = omega arith

-- a segment between two points of the Earth takes less than 2^29 decimetres
pub length-bound : (a b : Point) → length_of (position_of a) (position_of b) < 2 ^ 29
length-bound a b =
    let plane : plane_between (position_of a) (position_of b) < 27000000000000 * 27000000000000 =
    squares-bound (unsigned_abs (b.lon -ℤ a.lon)) (cosine_between (position_of a) (position_of b)) (unsigned_abs (b.lat -ℤ a.lat)) (omega (arith, ints)) (cosine-bound (middle_latitude a.lat b.lat)) (omega (arith, ints)) in
    let far = length-by (root_of (plane_between (position_of a) (position_of b))) (root-below (plane_between (position_of a) (position_of b)) 27000000000000 plane) in
    omega (arith, far)
