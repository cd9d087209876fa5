-- The bearing back is the other way round.
use Rattle.std.proofs.Common.{◌≡◌, ◌≢◌, ℕ, ℤ, zero, suc, pos, negsuc, Bool, true, false, cond, ◌+◌, ◌-◌, ◌*◌, ◌/◌, ◌%◌, ◌≤◌, ◌⊎◌, inl, inr, ◌+ℤ◌, ◌-ℤ◌, arith, refl, sym, ap, ◌∙◌, subst}
use Rattle.std.specs.Prelude.{◌*ℤ◌, ◌==◌, min, max, nat_le, unsigned_abs}
use Rattle.std.specs.Int.{int_div_euclid}
use Rattle.std.proofs.Math.IntN.{+ℤ_comm, neg_ℤ, neg_ℤ-+ℤ, neg_ℤ-neg_ℤ, negsuc-*ℤ-pos, pos-*ℤ-pos}
use Rattle.std.proofs.Math.Nat.{div-le_of_le-mul}
use Rattle.std.proofs.lemmas.Bool.Decides.{nat_tests}
use Rattle.std.proofs.lemmas.Int.{ints}
use Rattle.geo_integer.specs.Bearing.{angle_of, bearing_of, bearing_of_direction, tilt_of}
use Rattle.geo_integer.specs.Plane.{cosine_between, cosine_of, east_of, north_of}
use Rattle.geo_integer.specs.Position.{Position}

-- a direction that is turned by 180 degrees
by-angles : (x y : ℕ) → (x ≡ y + 180000) ⊎ (y ≡ x + 180000) → (x + 500) / 1000 % 360 ≡ ((y + 500) / 1000 % 360 + 180) % 360
by-angles x y (inl e) = omega (arith, e)
by-angles x y (inr e) = omega (arith, e)

angles : (steep : Bool) (e n : ℤ) (t : ℕ) → n ≢ pos 0 → t ≤ 45000 → (e ≡ pos 0 → (steep ≡ true) × (t ≡ 0))
    → (angle_of steep (neg_ℤ e) (neg_ℤ n) t ≡ angle_of steep e n t + 180000) ⊎ (angle_of steep e n t ≡ angle_of steep (neg_ℤ e) (neg_ℤ n) t + 180000)
angles steep e (pos zero) t apart few flat = absurd (apart refl)
angles true (pos zero) (pos (suc m)) t apart few flat = inl (omega (arith, (flat refl).1))
angles true (pos zero) (negsuc m) t apart few flat = inr (omega (arith, (flat refl).1))
angles false (pos zero) (pos (suc m)) t apart few flat = let no = (flat refl).0 in cc
angles false (pos zero) (negsuc m) t apart few flat = let no = (flat refl).0 in cc
angles true (pos (suc a)) (pos (suc m)) t apart few flat = inl (omega arith)
angles true (pos (suc a)) (negsuc m) t apart few flat = inl (omega arith)
angles true (negsuc a) (pos (suc m)) t apart few flat = inr (omega arith)
angles true (negsuc a) (negsuc m) t apart few flat = inr (omega arith)
angles false (pos (suc a)) (pos (suc m)) t apart few flat = inl (omega arith)
angles false (pos (suc a)) (negsuc m) t apart few flat = inl (omega arith)
angles false (negsuc a) (pos (suc m)) t apart few flat = inr (omega arith)
angles false (negsuc a) (negsuc m) t apart few flat = inr (omega arith)

abs-neg : (z : ℤ) → unsigned_abs (neg_ℤ z) ≡ unsigned_abs z
abs-neg (pos zero) = refl
abs-neg (pos (suc m)) = refl
abs-neg (negsuc m) = refl

-- a tilt is at most 45 degrees
tilt-parts : (m d : ℕ) → 45000 * m * (m + d) + 15640 * m * d ≤ (m + d) * (m + d) * 45000
tilt-parts m d = omega arith

quotient-bound : (m n : ℕ) → m ≤ n → (45000 * m * n + 15640 * m * (n - m)) / (n * n) ≤ 45000
quotient-bound m n h =
    let whole : m + (n - m) ≡ n = omega arith in
    let P : ℕ → Type 0 = λ k. 45000 * m * k + 15640 * m * (n - m) ≤ k * k * 45000 in
    div-le_of_le-mul (n * n) (subst P whole (tilt-parts m (n - m)))

zero-or : (P : ℕ → Type 0) (b : Bool) (k : ℕ) → P 0 → P k → P (cond b 0 k)
zero-or P true k zero-holds holds = zero-holds
zero-or P false k zero-holds holds = holds

tilt-bound : (a b : ℕ) → tilt_of (min a b) (max a b) ≤ 45000
tilt-bound a b = zero-or (λ k. k ≤ 45000) (max a b == 0) _ (omega arith) (quotient-bound (min a b) (max a b) (omega arith))

-- along an axis there is none
tilt-axis : (b : ℕ) → tilt_of (min 0 b) (max 0 b) ≡ 0
tilt-axis b =
    let least : min 0 b ≡ 0 = omega arith in
    let none : (45000 * 0 * max 0 b + 15640 * 0 * (max 0 b - 0)) / (max 0 b * max 0 b) ≡ 0 = omega arith in
    ap (λ (k : ℕ). tilt_of k (max 0 b)) least ∙ zero-or (λ k. k ≡ 0) (max 0 b == 0) _ refl none

-- the angle of a direction by the sizes of its parts
abbrev angle_by : ℕ → ℕ → ℤ → ℤ → ℕ
angle_by a b e n = angle_of (nat_le a b) e n (tilt_of (min a b) (max a b))

turned : (e n : ℤ) → n ≢ pos 0 → bearing_of_direction (neg_ℤ e) (neg_ℤ n) ≡ (bearing_of_direction e n + 180) % 360
turned e n apart =
    let a = unsigned_abs e in
    let b = unsigned_abs n in
    let upright : nat_le 0 b ≡ true = grind (arith, nat_tests) in
    let flat : e ≡ pos 0 → (nat_le a b ≡ true) × (tilt_of (min a b) (max a b) ≡ 0) =
    λ h. (ap (λ (z : ℤ). nat_le (unsigned_abs z) b) h ∙ upright, ap (λ (z : ℤ). tilt_of (min (unsigned_abs z) b) (max (unsigned_abs z) b)) h ∙ tilt-axis b) in
    ap (λ (k : ℕ). (angle_by k (unsigned_abs (neg_ℤ n)) (neg_ℤ e) (neg_ℤ n) + 500) / 1000 % 360) (abs-neg e)
    ∙ ap (λ (k : ℕ). (angle_by a k (neg_ℤ e) (neg_ℤ n) + 500) / 1000 % 360) (abs-neg n)
    ∙ by-angles (angle_by a b (neg_ℤ e) (neg_ℤ n)) (angle_by a b e n) (angles (nat_le a b) e n (tilt_of (min a b) (max a b)) apart (tilt-bound a b) flat)

neg-product : (y : ℤ) (c : ℕ) → neg_ℤ y *ℤ pos c ≡ neg_ℤ (y *ℤ pos c)
neg-product (pos zero) c =
    let none : pos 0 *ℤ pos c ≡ pos 0 = pos-*ℤ-pos 0 c ∙ ap pos (omega arith) in
    none ∙ sym (ap neg_ℤ none)
neg-product (pos (suc m)) c = negsuc-*ℤ-pos m c ∙ sym (ap neg_ℤ (pos-*ℤ-pos (suc m) c))
neg-product (negsuc m) c = pos-*ℤ-pos (suc m) c ∙ sym (ap neg_ℤ (negsuc-*ℤ-pos m c) ∙ neg_ℤ-neg_ℤ (pos (suc m * c)))

difference-back : (x y : ℤ) → x -ℤ y ≡ neg_ℤ (y -ℤ x)
difference-back x y = sym (neg_ℤ-+ℤ y (neg_ℤ x) ∙ ap (λ (z : ℤ). neg_ℤ y +ℤ z) (neg_ℤ-neg_ℤ x) ∙ +ℤ_comm (neg_ℤ y) x)

-- the differences of two positions in the plane, from the other one
back : (x y : ℤ) (c : ℕ) → (x -ℤ y) *ℤ pos c ≡ neg_ℤ ((y -ℤ x) *ℤ pos c)
back x y c = ap (λ (z : ℤ). z *ℤ pos c) (difference-back x y) ∙ neg-product (y -ℤ x) c

cosine-same : (p q : Position) → cosine_between q p ≡ cosine_between p q
cosine-same p q = ap (λ (z : ℤ). cosine_of (int_div_euclid z (pos 2))) (+ℤ_comm q.lat p.lat)

product-apart : (y : ℤ) → y ≢ pos 0 → y *ℤ pos 65536 ≢ pos 0
product-apart (pos zero) h = absurd (h refl)
product-apart (pos (suc m)) h = λ e. let f : pos (suc m * 65536) ≡ pos 0 = sym (pos-*ℤ-pos (suc m) 65536) ∙ e in omega (arith, ints, f)
product-apart (negsuc m) h = λ e. let f : pos (suc m * 65536) ≡ pos 0 = sym (neg_ℤ-neg_ℤ (pos (suc m * 65536))) ∙ ap neg_ℤ (sym (negsuc-*ℤ-pos m 65536) ∙ e) in omega (arith, ints, f)

-- between two points at different latitudes the bearing back is 180 degrees from the one there
pub bearing-back : (p q : Position) → p.lat ≢ q.lat → bearing_of q p ≡ (bearing_of p q + 180) % 360
bearing-back p q apart =
    let c = cosine_between p q in
    let north : north_of p q ≢ pos 0 = product-apart (q.lat -ℤ p.lat) (λ e. apart (omega (arith, ints, e))) in
    ap (λ (k : ℕ). bearing_of_direction (east_of q p k) (north_of q p)) (cosine-same p q)
    ∙ ap (λ (z : ℤ). bearing_of_direction z (north_of q p)) (back p.lon q.lon c)
    ∙ ap (λ (z : ℤ). bearing_of_direction (neg_ℤ (east_of p q c)) z) (back p.lat q.lat 65536)
    ∙ turned (east_of p q c) (north_of p q) north
