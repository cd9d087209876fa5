-- What is more remote is no fewer decimetres away.
use Rattle.std.proofs.Common.{ℕ, ◌+◌, ◌*◌, ◌/◌, ◌<◌, ◌≤◌, inl, inr, arith, zero, suc}
use Rattle.std.proofs.Math.Nat.{mul-le-mul}
use Rattle.std.proofs.lemmas.Bool.{cases_lt}
use Rattle.std.proofs.lemmas.Bool.Decides.{nat_tests}
use Rattle.geo_integer.specs.Plane.{plane_between}
use Rattle.geo_integer.specs.Position.{Position}
use Rattle.geo_integer.specs.Root.{IsRoot, greatest_root, root_of}
use Rattle.snap_index.specs.Kept.{decimetres_between}
use Rattle.snap_index.specs.Nearest.{remoteness}

is_root-greatest_root : (n high : ℕ) → n < (high + 1) * (high + 1) → IsRoot n (greatest_root n high)
unfolding greatest_root
is_root-greatest_root n zero h = (omega arith, h)
is_root-greatest_root n (suc high) h = grind (arith, nat_tests, is_root-greatest_root n high)

is_root-root_of : (n : ℕ) → IsRoot n (root_of n)
unfolding root_of
is_root-root_of n = is_root-greatest_root n n (omega arith)

-- a greater number has no smaller root
root-grows : (m n : ℕ) → m ≤ n → root_of m ≤ root_of n
root-grows m n h =
    let low = is_root-root_of m in
    let high = is_root-root_of n in
    elim (cases_lt (root_of n) (root_of m)) as (λ _. root_of m ≤ root_of n) [
      | inl less ↦ let up : root_of n + 1 ≤ root_of m = omega arith in absurd (omega (arith, mul-le-mul up up, low.0, high.1, h))
      | inr more ↦ more
    ]

part-grows : (a b : ℕ) → a ≤ b → a * 111195 / 6553600000 ≤ b * 111195 / 6553600000
part-grows a b h = omega arith

pub decimetres-grow : (from near far : Position) → remoteness from near ≤ remoteness from far → decimetres_between from near ≤ decimetres_between from far
unfolding decimetres_between remoteness
decimetres-grow from near far h = part-grows (root_of (plane_between from near)) (root_of (plane_between from far)) (root-grows (plane_between from near) (plane_between from far) h)
