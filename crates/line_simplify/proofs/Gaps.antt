-- How the way from a point to its nearest place on a line changes from point to point, along one axis.
use Rattle.std.proofs.Common.{◌≡◌, ℕ, zero, suc, ◌+◌, ◌-◌, ◌*◌, ◌/◌, ◌<◌, ◌≤◌, ◌⊎◌, inl, inr, sym, ap, subst, mod-lt, arith}
use borrow.Author.Differences.{product_is}
use Rattle.std.specs.Prelude.{ℤ, pos, negsuc, ◌+ℤ◌, ◌-ℤ◌, ◌*ℤ◌, ◌≤ℤ◌, ◌<ℤ◌, unsigned_abs}
use Rattle.std.specs.Int.{int_div_euclid}
use Rattle.std.proofs.Math.Nat.{mul-le-mul}
use Rattle.std.proofs.lemmas.Bool.{cases_lt}
use Rattle.std.proofs.lemmas.Bool.Decides.{nat_tests}
use Rattle.std.proofs.lemmas.Int.{ints}
use Rattle.std.proofs.lemmas.Nat.{div-add-mod'}
use Rattle.geo_integer.specs.Project.{coordinate_at, share_of}

le_refl : (n : ℕ) → n ≤ n
le_refl n = omega arith

-- a quotient that is rounded down, by its two bounds
quotient-low : (n m : ℕ) → n / m * m ≤ n
quotient-low n m = let e = div-add-mod' n m in omega (arith, e)

quotient-high : (n m : ℕ) → 0 < m → n < n / m * m + m
quotient-high n m h = let e = div-add-mod' n m in let l = mod-lt n h in omega (arith, e, l)

-- a share of 1024ths by its cases
share-none : (x : ℕ) → share_of (pos x) 0 ≡ 0
share-none x = grind (arith, nat_tests)

share-all : (x w : ℕ) → 0 < w → w ≤ x → share_of (pos x) w ≡ 1024
share-all x w some h = grind (arith, nat_tests)

share-part : (x w : ℕ) → 0 < x → x < w → share_of (pos x) w ≡ (2048 * x + w) / (2 * w)
share-part x w some h = grind (arith, nat_tests)

-- it is no more than it should be by half a 1024th
share-high : (x w : ℕ) → 0 < w → 2 * w * share_of (pos x) w ≤ 2048 * x + w
share-high zero w some = omega arith
share-high (suc x) w some = elim (cases_lt (suc x) w) as (λ _. 2 * w * share_of (pos (suc x)) w ≤ 2048 * suc x + w) [
  | inl lt ↦
      let e = share-part (suc x) w (omega arith) lt in
      let low = quotient-low (2048 * suc x + w) (2 * w) in
      subst (λ s. 2 * w * s ≤ 2048 * suc x + w) (sym e) (omega (arith, low))
  | inr le ↦ let e = share-all (suc x) w some le in subst (λ s. 2 * w * s ≤ 2048 * suc x + w) (sym e) (omega (arith, le))
]

-- and no less, but where it is all
share-low : (x w : ℕ) → 0 < w → (share_of (pos x) w ≡ 1024) ⊎ (2048 * x + w < 2 * w * (share_of (pos x) w + 1))
share-low zero w some = inr (omega arith)
share-low (suc x) w some = elim (cases_lt (suc x) w) as (λ _. (share_of (pos (suc x)) w ≡ 1024) ⊎ (2048 * suc x + w < 2 * w * (share_of (pos (suc x)) w + 1))) [
  | inl lt ↦
      let e = share-part (suc x) w (omega arith) lt in
      let high = quotient-high (2048 * suc x + w) (2 * w) (omega arith) in
      inr (subst (λ s. 2048 * suc x + w < 2 * w * (s + 1)) (sym e) (omega (arith, high)))
  | inr le ↦ inl (share-all (suc x) w some le)
]

share-most : (x w : ℕ) → 0 < w → share_of (pos x) w ≤ 1024
share-most x w some = elim (cases_lt x w) as (λ _. share_of (pos x) w ≤ 1024) [
  | inl lt ↦
      elim (cases_lt 1024 (share_of (pos x) w)) as (λ _. share_of (pos x) w ≤ 1024) [
        | inl more ↦
            let high = share-high x w some in
            let up : 1025 ≤ share_of (pos x) w = omega (arith, more) in
            let wide = mul-le-mul (le_refl (2 * w)) up in
            absurd (omega (arith, high, wide, lt))
        | inr le ↦ le
      ]
  | inr le ↦ let e = share-all x w some le in omega (arith, e)
]

pub share-bound : (z : ℤ) (w : ℕ) → share_of z w ≤ 1024
share-bound (negsuc x) w = omega arith
share-bound (pos x) zero = let e = share-none x in omega (arith, e)
share-bound (pos x) (suc w) = share-most x (suc w) (omega arith)

-- places of two points, where a line that is m wide is followed by d: no faster, but for the rounding
places-apart : (x y w m k d t e : ℕ) → x ≤ y + m * k * d → m * m * k ≤ w → 2 * w * (t + 1 + e) ≤ 2048 * x + w → 2048 * y + w < 2 * w * (t + 1) → m * e ≤ 1024 * d
places-apart x y w m k d t e near whole high low = elim (cases_lt (1024 * d) (m * e)) as (λ _. m * e ≤ 1024 * d) [
  | inl lt ↦
      let up : 1024 * d + 1 ≤ m * e = omega (arith, lt) in
      let wide : m * k * (1024 * d + 1) ≤ m * k * (m * e) = mul-le-mul (le_refl (m * k)) up in
      let over : m * m * k * e ≤ w * e = mul-le-mul whole (le_refl e) in
      absurd (omega (arith, near, high, low, wide, over))
  | inr le ↦ le
]

places-grow : (x y w m k d s t : ℕ) → x ≤ y + m * k * d → m * m * k ≤ w → 2 * w * s ≤ 2048 * x + w → 2048 * y + w < 2 * w * (t + 1) → m * s ≤ m * t + 1024 * d + m
places-grow x y w m k d s t near whole high low = elim (cases_lt (t + 1) s) as (λ _. m * s ≤ m * t + 1024 * d + m) [
  | inl lt ↦
      let e : s ≡ t + 1 + (s - (t + 1)) = omega (arith, lt) in
      let apart = places-apart x y w m k d t (s - (t + 1)) near whole (subst (λ n. 2 * w * n ≤ 2048 * x + w) e high) low in
      subst (λ n. m * n ≤ m * t + 1024 * d + m) (sym e) (omega (arith, apart))
  | inr le ↦ let wide = mul-le-mul (le_refl m) le in omega (arith, wide)
]

shares-grow : (u v : ℤ) (w m k d : ℕ) → u ≤ℤ (v +ℤ pos (m * k * d)) → m * m * k ≤ w → m * share_of u w ≤ m * share_of v w + 1024 * d + m
shares-grow (negsuc x) v w m k d near whole = omega arith
shares-grow (pos x) v zero m k d near whole = let e = share-none x in subst (λ s. m * s ≤ m * share_of v 0 + 1024 * d + m) (sym e) (omega arith)
shares-grow (pos x) (pos y) (suc w) m k d near whole = elim (share-low y (suc w) (omega arith)) as (λ _. m * share_of (pos x) (suc w) ≤ m * share_of (pos y) (suc w) + 1024 * d + m) [
  | inl all ↦
      let wide = mul-le-mul (le_refl m) (share-most x (suc w) (omega arith)) in
      subst (λ t. m * share_of (pos x) (suc w) ≤ m * t + 1024 * d + m) (sym all) (omega (arith, wide))
  | inr low ↦ places-grow x y (suc w) m k d (share_of (pos x) (suc w)) (share_of (pos y) (suc w)) (omega (arith, ints, near)) whole (share-high x (suc w) (omega arith)) low
]
shares-grow (pos x) (negsuc y) (suc w) m k d near whole =
    places-grow x 0 (suc w) m k d (share_of (pos x) (suc w)) 0 (omega (arith, ints, near)) whole (share-high x (suc w) (omega arith)) (omega arith)

goes-down : (m k d : ℕ) (u v r : ℤ) → u ≡ (v +ℤ (negsuc m *ℤ pos k *ℤ pos d)) +ℤ r → pos 0 ≤ℤ r → v ≤ℤ (u +ℤ pos (suc m * k * d))
goes-down m k d u v r e up =
    let parts = product_is (negsuc m) (pos k) in
    let whole = product_is (negsuc m *ℤ pos k) (pos d) in
    omega (arith, ints, e, up, whole.0, whole.1, ap (λ (n : ℕ). n * d) parts.0, ap (λ (n : ℕ). n * d) parts.1)

-- the same of a line that goes either way along the axis
turned : (g u v r : ℤ) (w k d : ℕ) → unsigned_abs g * unsigned_abs g * k ≤ w → u ≡ (v +ℤ (g *ℤ pos k *ℤ pos d)) +ℤ r
    → ((pos 0 ≤ℤ g) × (r ≤ℤ pos 0)) ⊎ ((g ≤ℤ pos 0) × (pos 0 ≤ℤ r)) → (g *ℤ pos (share_of u w)) ≤ℤ ((g *ℤ pos (share_of v w)) +ℤ pos (1024 * d + unsigned_abs g))
turned (pos m) u v r w k d whole e (inl h) =
    let down = h.1 in
    let near : u ≤ℤ (v +ℤ pos (m * k * d)) = omega (arith, ints, e, down) in
    let grow = shares-grow u v w m k d near whole in
    omega (arith, ints, grow)
turned (pos zero) u v r w k d whole e (inr h) = omega (arith, ints)
turned (pos (suc m)) u v r w k d whole e (inr h) = let le = h.0 in absurd (omega (arith, ints, le))
turned (negsuc m) u v r w k d whole e (inl h) = let le = h.0 in absurd (omega (arith, ints, le))
turned (negsuc m) u v r w k d whole e (inr h) =
    let near = goes-down m k d u v r e h.1 in
    let grow = shares-grow v u w (suc m) k d near whole in
    omega (arith, ints, grow)

-- a quotient of a whole number
low-1024 : (z : ℤ) → (int_div_euclid z (pos 1024) *ℤ pos 1024) ≤ℤ z
low-1024 (pos a) = omega (arith, ints)
low-1024 (negsuc a) = omega (arith, ints)

high-1024 : (z : ℤ) → z <ℤ ((int_div_euclid z (pos 1024) *ℤ pos 1024) +ℤ pos 1024)
high-1024 (pos a) = omega (arith, ints)
high-1024 (negsuc a) = omega (arith, ints)

-- by how much rounding can move a place along one axis
abbrev pub slack_of : ℤ → ℤ → ℕ
slack_of a b = (unsigned_abs (b -ℤ a) + 1023) / 1024

quotients-grow : (x y q p : ℤ) (d m : ℕ) → x ≤ℤ (y +ℤ pos (1024 * d + m)) → (q *ℤ pos 1024) ≤ℤ (x +ℤ pos 512) → (y +ℤ pos 512) <ℤ ((p *ℤ pos 1024) +ℤ pos 1024) → q ≤ℤ ((p +ℤ pos d) +ℤ pos ((m + 1023) / 1024))
quotients-grow x y q p d m near low high = omega (arith, ints)

-- along one axis a place goes on no farther than the point does, but for the rounding
pub axis-grows : (a b u v r : ℤ) (w k d : ℕ) → unsigned_abs (b -ℤ a) * unsigned_abs (b -ℤ a) * k ≤ w → u ≡ (v +ℤ ((b -ℤ a) *ℤ pos k *ℤ pos d)) +ℤ r
    → ((pos 0 ≤ℤ (b -ℤ a)) × (r ≤ℤ pos 0)) ⊎ (((b -ℤ a) ≤ℤ pos 0) × (pos 0 ≤ℤ r)) → coordinate_at a b (share_of u w) ≤ℤ ((coordinate_at a b (share_of v w) +ℤ pos d) +ℤ pos (slack_of a b))
axis-grows a b u v r w k d whole e sides =
    let x = (b -ℤ a) *ℤ pos (share_of u w) in
    let y = (b -ℤ a) *ℤ pos (share_of v w) in
    let grow = quotients-grow x y (int_div_euclid (x +ℤ pos 512) (pos 1024)) (int_div_euclid (y +ℤ pos 512) (pos 1024)) d (unsigned_abs (b -ℤ a)) (turned (b -ℤ a) u v r w k d whole e sides) (low-1024 (x +ℤ pos 512)) (high-1024 (y +ℤ pos 512)) in
    omega (arith, ints, grow)
