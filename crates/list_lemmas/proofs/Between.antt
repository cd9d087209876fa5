-- Whole numbers between two others, and quotients that are rounded down.
use Rattle.std.proofs.Common.{ℕ, ◌+◌, ◌*◌, ◌≤◌, ◌≤ℤ◌, ◌<ℤ◌, ◌+ℤ◌, ◌-ℤ◌, ◌*ℤ◌, ◌⊎◌, inl, inr, arith}
use Rattle.std.specs.Prelude.{ℤ, pos, negsuc}
use Rattle.std.specs.Int.{int_div_euclid}
use Rattle.std.proofs.Math.Nat.{mul-le-mul_left}
use Rattle.std.proofs.lemmas.Int.{ints}

-- c lies between a and b, or is one of them
abbrev pub LiesBetween : ℤ → ℤ → ℤ → Type 0
LiesBetween a b c = (a ≤ℤ c × c ≤ℤ b) ⊎ (b ≤ℤ c × c ≤ℤ a)

-- so many 1024ths of a number, rounded to the nearest
abbrev pub rounded_part : ℤ → ℕ → ℤ
rounded_part d at = int_div_euclid (d *ℤ pos at +ℤ pos 512) (pos 1024)

-- a quotient that is rounded down, by its two bounds
at_most-1024 : (z : ℤ) → (int_div_euclid z (pos 1024) *ℤ pos 1024) ≤ℤ z
at_most-1024 (pos a) = omega (arith, ints)
at_most-1024 (negsuc a) = omega (arith, ints)

below-1024 : (z : ℤ) → z <ℤ ((int_div_euclid z (pos 1024) *ℤ pos 1024) +ℤ pos 1024)
below-1024 (pos a) = omega (arith, ints)
below-1024 (negsuc a) = omega (arith, ints)

-- a product with at most 1024 lies between zero and the product with 1024
between-product : (d : ℤ) (at : ℕ) → at ≤ 1024 → LiesBetween (pos 0) (d *ℤ pos 1024) (d *ℤ pos at)
between-product (pos a) at h = inl (omega (arith, ints, mul-le-mul_left a h), omega (arith, ints, mul-le-mul_left a h))
between-product (negsuc a) at h = inr (omega (arith, ints, mul-le-mul_left a h), omega (arith, ints, mul-le-mul_left a h))

between-rounded : (d e q : ℤ) → LiesBetween (pos 0) (d *ℤ pos 1024) e → (q *ℤ pos 1024) ≤ℤ (e +ℤ pos 512) → (e +ℤ pos 512) <ℤ ((q *ℤ pos 1024) +ℤ pos 1024) → LiesBetween (pos 0) d q
between-rounded d e q h below above = elim h as (λ _. LiesBetween (pos 0) d q) [
  | inl up ↦ inl (omega (arith, ints), omega (arith, ints))
  | inr down ↦ inr (omega (arith, ints), omega (arith, ints))
]

-- a part of a number lies between zero and the number
pub between-part : (d : ℤ) (at : ℕ) → at ≤ 1024 → LiesBetween (pos 0) d (rounded_part d at)
between-part d at h =
    between-rounded d (d *ℤ pos at) (rounded_part d at) (between-product d at h)
    (at_most-1024 (d *ℤ pos at +ℤ pos 512)) (below-1024 (d *ℤ pos at +ℤ pos 512))

-- what lies between zero and the difference from a to b, added to a, lies between a and b
pub between-add : (a b q : ℤ) → LiesBetween (pos 0) (b -ℤ a) q → LiesBetween a b (a +ℤ q)
between-add a b q h = elim h as (λ _. LiesBetween a b (a +ℤ q)) [
  | inl up ↦ inl (omega (arith, ints), omega (arith, ints))
  | inr down ↦ inr (omega (arith, ints), omega (arith, ints))
]
