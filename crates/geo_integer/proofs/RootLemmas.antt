-- There is one greatest number whose square is at most n.
use Rattle.std.proofs.Common.{◌≡◌, ℕ, ◌+◌, ◌*◌, ◌<◌, ◌≤◌, inl, inr, arith, zero, suc}
use Rattle.std.proofs.Math.Nat.{mul-le-mul}
use Rattle.std.proofs.lemmas.Bool.{cases_lt, cases_order}
use Rattle.std.proofs.lemmas.Bool.Decides.{nat_tests}
use Rattle.geo_integer.specs.Root.{IsRoot, greatest_root, root_of}

-- no two numbers are both it
IsRoot-below : (n r s : ℕ) → IsRoot n r → IsRoot n s → s ≤ r
IsRoot-below n r s h k = elim (cases_order r s) as (λ _. s ≤ r) [
  | inl e ↦ omega arith
  | inr o ↦ elim o [
    | inl less ↦ let up : r + 1 ≤ s = omega arith in absurd (omega (arith, mul-le-mul up up, h.1, k.0))
    | inr more ↦ omega arith
  ]
]

pub IsRoot-same : (n r s : ℕ) → IsRoot n r → IsRoot n s → r ≡ s
IsRoot-same n r s h k = omega (arith, IsRoot-below n r s h k, IsRoot-below n s r k h)

IsRoot-greatest_root : (n high : ℕ) → n < (high + 1) * (high + 1) → IsRoot n (greatest_root n high)
unfolding greatest_root
IsRoot-greatest_root n zero h = (omega arith, h)
IsRoot-greatest_root n (suc high) h = grind (arith, nat_tests, IsRoot-greatest_root n high)

pub IsRoot-root_of : (n : ℕ) → IsRoot n (root_of n)
unfolding root_of
IsRoot-root_of n = IsRoot-greatest_root n n (omega arith)

-- it is below each number whose square is greater than n
pub root-below : (n k : ℕ) → n < k * k → root_of n < k
root-below n k h = elim (cases_lt (root_of n) k) as (λ _. root_of n < k) [
  | inl below ↦ below
  | inr above ↦ absurd (omega (arith, mul-le-mul above above, (IsRoot-root_of n).0))
]
