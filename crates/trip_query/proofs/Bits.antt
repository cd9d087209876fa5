-- A set of places as a number: one place taken out, and what is left.
use Rattle.std.proofs.Common.{◌≡◌, ◌≢◌, ℕ, zero, suc, ◌+◌, ◌-◌, ◌*◌, ◌/◌, ◌%◌, ◌^◌, ◌<◌, ◌≤◌, inl, inr, arith, sym, ◌∙◌, ap, subst, refl}
use Rattle.std.specs.Int.{bit_at}
use Rattle.std.proofs.lemmas.Bool.{cases_lt}
use Rattle.std.proofs.lemmas.Nat.{pow_pos}
use Rattle.std.proofs.lemmas.Nat.Bits.{bit_at-suc, bit_at_above}
use Rattle.std.proofs.Math.Nat.{pow-succ'}

-- a set with a place is at least the number of that place alone
pub power_within : (s k : ℕ) → bit_at s k ≡ 1 → 2 ^ k ≤ s
power_within s k h = elim (cases_lt s (2 ^ k)) [
  | inl lt ↦ let here : k ≤ k = omega arith in let e : bit_at s k ≡ 0 = bit_at_above s k k lt here in absurd (omega (arith, h, e))
  | inr ge ↦ ge
]

-- and so not empty
pub some_within : (s k : ℕ) → bit_at s k ≡ 1 → 0 < s
some_within s k h = let p = pow_pos k in let w = power_within s k h in omega (arith, p, w)

-- and greater than it is without the place
pub without_smaller : (s k : ℕ) → bit_at s k ≡ 1 → s - 2 ^ k < s
without_smaller s k h = let p = pow_pos k in let w = power_within s k h in omega (arith, p, w)

half : (s p : ℕ) → (s - 2 * p) / 2 ≡ s / 2 - p
half s p = omega arith

half_odd : (s : ℕ) → s % 2 ≡ 1 → (s - 1) / 2 ≡ s / 2
half_odd s h = omega arith

even_kept : (s p : ℕ) → 2 * p ≤ s → (s - 2 * p) % 2 ≡ s % 2
even_kept s p h = omega arith

lowest : (s : ℕ) → bit_at s 0 ≡ 1 → s % 2 ≡ 1
lowest s h = omega (arith, h)

half_without : (s j : ℕ) → (s - 2 ^ suc j) / 2 ≡ s / 2 - 2 ^ j
half_without s j = ap (λ p. (s - p) / 2) (pow-succ' 2 j) ∙ half s (2 ^ j)

-- what is taken out is no longer there
pub without_same : (j s : ℕ) → bit_at s j ≡ 1 → bit_at (s - 2 ^ j) j ≡ 0
without_same zero s h = let e = lowest s h in omega (arith, e)
without_same (suc j) s h =
    let rest : bit_at (s / 2) j ≡ 1 = sym (bit_at-suc s j) ∙ h in
    bit_at-suc (s - 2 ^ suc j) j ∙ ap (λ n. bit_at n j) (half_without s j) ∙ without_same j (s / 2) rest

first_kept : (s j : ℕ) → 2 ^ suc j ≤ s → bit_at (s - 2 ^ suc j) 0 ≡ bit_at s 0
first_kept s j w = let e = even_kept s (2 ^ j) (subst (λ (p : ℕ). p ≤ s) (pow-succ' 2 j) w) in let f = pow-succ' 2 j in rw f (omega (arith, e))

-- each other place is there as before
pub without_other : (j k s : ℕ) → bit_at s j ≡ 1 → k ≢ j → bit_at (s - 2 ^ j) k ≡ bit_at s k
without_other zero zero s h ne = absurd (ne refl)
without_other zero (suc k) s h ne = bit_at-suc (s - 1) k ∙ ap (λ n. bit_at n k) (half_odd s (lowest s h)) ∙ sym (bit_at-suc s k)
without_other (suc j) zero s h ne = first_kept s j (power_within s (suc j) h)
without_other (suc j) (suc k) s h ne =
    let rest : bit_at (s / 2) j ≡ 1 = sym (bit_at-suc s j) ∙ h in
    bit_at-suc (s - 2 ^ suc j) k ∙ ap (λ n. bit_at n k) (half_without s j) ∙ without_other j k (s / 2) rest (λ e. ne (ap suc e)) ∙ sym (bit_at-suc s k)

-- the number of a place alone, as the code computes it
pub shifted : (k s : ℕ) → 2 ^ k ≤ s → s < 18446744073709551616 → 1 * 2 ^ k % 18446744073709551616 ≡ 2 ^ k
shifted k s h w = omega arith

-- what the code takes out of a set with a place, and what is left is smaller
pub taken_out : (s k : ℕ) → bit_at s k ≡ 1 → s < 18446744073709551616 → (1 * 2 ^ k % 18446744073709551616 ≡ 2 ^ k) × (s - 1 * 2 ^ k % 18446744073709551616 < s)
taken_out s k h fits =
    let same = shifted k s (power_within s k h) fits in
    let less = without_smaller s k h in
    (same, omega (arith, same, less))
