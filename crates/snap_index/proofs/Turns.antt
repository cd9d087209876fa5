-- Bearings that differ by few degrees round the circle.
use Rattle.std.proofs.Common.{◌≡◌, ℕ, ◌+◌, ◌<◌, ◌≤◌, ◌⊎◌, inl, inr, arith}
use Rattle.std.specs.Prelude.{◌-◌, ◌%◌}
use Rattle.std.proofs.lemmas.Bool.{cases_lt}
use Rattle.snap_index.specs.Kept.{DifferAtMost}

-- so many degrees clockwise from one bearing to another
abbrev pub clockwise : ℕ → ℕ → ℕ
clockwise a b = (b + 360 - a % 360) % 360

on-clockwise : (a b : ℕ) → b < 360 → (a + clockwise a b) % 360 ≡ b % 360
on-clockwise a b h = omega arith

back-clockwise : (a b : ℕ) → b < 360 → (b + (360 - clockwise a b)) % 360 ≡ a % 360
back-clockwise a b h = omega arith

pub differ-on : (range a b : ℕ) → b < 360 → clockwise a b ≤ range → DifferAtMost range a b
differ-on range a b h le = (clockwise a b, le, inl (on-clockwise a b h))

pub differ-back : (range a b : ℕ) → b < 360 → 360 - clockwise a b ≤ range → DifferAtMost range a b
differ-back range a b h le = (360 - clockwise a b, le, inr (back-clockwise a b h))

least-on : (turn a b : ℕ) → b < 360 → (a + turn) % 360 ≡ b % 360 → clockwise a b ≤ turn
least-on turn a b h e = omega arith

least-back : (turn a b : ℕ) → b < 360 → (b + turn) % 360 ≡ a % 360 → (clockwise a b ≤ turn) ⊎ (360 - clockwise a b ≤ turn)
least-back turn a b h e = elim (cases_lt 0 (clockwise a b)) as (λ _. (clockwise a b ≤ turn) ⊎ (360 - clockwise a b ≤ turn)) [
  | inl more ↦ inr (omega arith)
  | inr none ↦ inl (omega arith)
]

pub differ-within : (range a b : ℕ) → b < 360 → DifferAtMost range a b → (clockwise a b ≤ range) ⊎ (360 - clockwise a b ≤ range)
differ-within range a b h d = elim d.2 as (λ _. (clockwise a b ≤ range) ⊎ (360 - clockwise a b ≤ range)) [
  | inl on ↦ let less = least-on d.0 a b h on in let within = d.1 in inl (omega (arith, less, within))
  | inr back ↦ elim (least-back d.0 a b h back) as (λ _. (clockwise a b ≤ range) ⊎ (360 - clockwise a b ≤ range)) [
    | inl less ↦ let within = d.1 in inl (omega (arith, less, within))
    | inr less ↦ let within = d.1 in inr (omega (arith, less, within))
  ]
]

pub differ-within_back : (range a b : ℕ) → b < 360 → range < clockwise a b → DifferAtMost range a b → 360 - clockwise a b ≤ range
differ-within_back range a b h far d = elim (differ-within range a b h d) as (λ _. 360 - clockwise a b ≤ range) [ inl on ↦ absurd (omega (arith, on, far)) | inr back ↦ back ]
