-- How far what lies within an extent, or outside of a frame, is away at least.
use Rattle.std.proofs.Common.{◌≡◌, ℕ, ◌+◌, ◌-◌, ◌*◌, ◌/◌, ◌<◌, ◌≤◌, inl, inr, arith, subst, sym}
use Rattle.std.specs.Prelude.{ℤ, pos, negsuc, ◌+ℤ◌, ◌-ℤ◌, min, unsigned_abs}
use Rattle.std.proofs.Math.Nat.{mul-le-mul}
use Rattle.std.proofs.lemmas.Nat.{div-add-mod', le-div}
use Rattle.std.proofs.lemmas.Bool.{cases_lt}
use Rattle.std.proofs.lemmas.Int.{ints}
use Rattle.std.specs.Int.{int_div_euclid}
use Rattle.geo_integer.specs.Plane.{cosine_between, cosine_of, middle_latitude, plane_of}
use Rattle.geo_integer.specs.Position.{Position}
use Rattle.snap_index.specs.Nearest.{remoteness}

le_refl : (n : ℕ) → n ≤ n
le_refl n = omega arith

-- a distance by parts that are no greater
pub plane-grows : (from spot : Position) (e n c : ℕ) → e ≤ unsigned_abs (spot.lon -ℤ from.lon) → n ≤ unsigned_abs (spot.lat -ℤ from.lat) → c ≤ cosine_between from spot → plane_of (pos e) (pos n) c ≤ remoteness from spot
unfolding remoteness
plane-grows from spot e n c he hn hc =
    let east = mul-le-mul he hc in
    let north = mul-le-mul hn (le_refl 65536) in
    let easts = mul-le-mul east east in
    let norths = mul-le-mul north north in
    omega (arith, easts, norths)

scaled : (far k : ℕ) → far / 4294967296 < k → far < 4294967296 * k
scaled far k h = omega (arith, h)

-- a spot by its latitude alone lies farther away
pub north-beyond : (from spot : Position) (far root : ℕ) → far / 4294967296 < (root + 1) * (root + 1) → root < unsigned_abs (spot.lat -ℤ from.lat) → far < remoteness from spot
unfolding remoteness
north-beyond from spot far root h more =
    let n = unsigned_abs (spot.lat -ℤ from.lat) in
    let m = unsigned_abs (spot.lon -ℤ from.lon) * cosine_between from spot in
    let east : 0 ≤ m * m = omega arith in
    let up : root + 1 ≤ n = omega (arith, more) in
    let squares = mul-le-mul up up in
    let wide : n * 65536 * (n * 65536) ≡ 4294967296 * (n * n) = omega arith in
    let below : far < 4294967296 * ((root + 1) * (root + 1)) = scaled far ((root + 1) * (root + 1)) h in
    omega (arith, east, squares, wide, below)

-- a spot by its longitude alone does
pub east-beyond : (from spot : Position) (far root c : ℕ) → far / 4294967296 < (root + 1) * (root + 1) → (root + 1) * 65536 ≤ unsigned_abs (spot.lon -ℤ from.lon) * c → c ≤ cosine_between from spot
    → far < remoteness from spot
unfolding remoteness
east-beyond from spot far root c h more hc =
    let n = unsigned_abs (spot.lat -ℤ from.lat) * 65536 in
    let north : 0 ≤ n * n = omega arith in
    let wide = mul-le-mul (le_refl (unsigned_abs (spot.lon -ℤ from.lon))) hc in
    let up : (root + 1) * 65536 ≤ unsigned_abs (spot.lon -ℤ from.lon) * cosine_between from spot = omega (arith, more, wide) in
    let squares = mul-le-mul up up in
    let one : (root + 1) * 65536 * ((root + 1) * 65536) ≡ 4294967296 * ((root + 1) * (root + 1)) = omega arith in
    let below : far < 4294967296 * ((root + 1) * (root + 1)) = scaled far ((root + 1) * (root + 1)) h in
    omega (arith, north, squares, one, below)

-- a greater number of latitude has no greater cosine
abbrev cosine_at : ℕ → ℕ
cosine_at m = 65536 * (32400000000000000 - 4 * (m * m)) / (32400000000000000 + m * m)

quotients : (a b c d : ℕ) → 0 < c → 0 < d → a ≤ b → c ≤ d → a / d ≤ b / c
quotients a b c d hc hd hab hcd =
    let whole : a / d * d ≤ a = let e = div-add-mod' a d in omega (arith, e) in
    let less = mul-le-mul (le_refl (a / d)) hcd in
    le-div (a / d) b c hc (omega (arith, whole, less, hab))

cosine-falls : (m n : ℕ) → m ≤ n → cosine_at n ≤ cosine_at m
cosine-falls m n h =
    let squares = mul-le-mul h h in
    quotients (65536 * (32400000000000000 - 4 * (n * n))) (65536 * (32400000000000000 - 4 * (m * m))) (32400000000000000 + m * m) (32400000000000000 + n * n)
    (omega arith) (omega arith) (omega (arith, squares)) (omega (arith, squares))

-- half of a whole number, rounded down
half-bound : (z : ℤ) (n : ℕ) → unsigned_abs z ≤ n → unsigned_abs (int_div_euclid z (pos 2)) ≤ (n + 1) / 2
half-bound (pos a) n h = omega (arith, ints)
half-bound (negsuc a) n h = omega (arith, ints)

sum-bound : (a b : ℤ) (w : ℕ) → unsigned_abs (b -ℤ a) ≤ w → unsigned_abs (a +ℤ b) ≤ 2 * unsigned_abs a + w
sum-bound a b w h = omega (arith, ints)

-- a spot that isn't more remote lies within so many microdegrees of latitude
within-width : (n w : ℕ) → n * 65536 * (n * 65536) ≤ w * 65536 * (w * 65536) → n ≤ w
within-width n w h = elim (cases_lt w n) as (λ _. n ≤ w) [
  | inl lt ↦
      let up : w + 1 ≤ n = omega arith in
      let wide = mul-le-mul up (le_refl 65536) in
      let squares = mul-le-mul wide wide in
      absurd (omega (arith, squares, h))
  | inr le ↦ le
]

latitude-within : (from spot : Position) (w : ℕ) → remoteness from spot ≤ w * 65536 * (w * 65536) → unsigned_abs (spot.lat -ℤ from.lat) ≤ w
unfolding remoteness
latitude-within from spot w h =
    let m = unsigned_abs (spot.lon -ℤ from.lon) * cosine_between from spot in
    let east : 0 ≤ m * m = omega arith in
    within-width (unsigned_abs (spot.lat -ℤ from.lat)) w (omega (arith, h, east))

-- so the cosine half-way to it is no less than that at the farthest latitude half-way
pub least-cosine : (from spot : Position) (w most : ℕ) → most ≡ min (unsigned_abs from.lat + (w + 1) / 2) 90000000 → remoteness from spot ≤ w * 65536 * (w * 65536) → cosine_of (pos most) ≤ cosine_between from spot
least-cosine from spot w most e h =
    let within = latitude-within from spot w h in
    let sums = sum-bound from.lat spot.lat w within in
    let half = half-bound (from.lat +ℤ spot.lat) (2 * unsigned_abs from.lat + w) sums in
    elim (cases_lt 90000000 (unsigned_abs from.lat + (w + 1) / 2)) as (λ _. cosine_of (pos most) ≤ cosine_between from spot) [
      | inl far ↦ let q : most ≡ 90000000 = omega (arith, e, far) in subst (λ n. cosine_of (pos n) ≤ cosine_between from spot) (sym q) (omega arith)
      | inr near ↦ cosine-falls (unsigned_abs (middle_latitude from.lat spot.lat)) most (omega (arith, half, e, near))
    ]
