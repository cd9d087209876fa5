-- Bounds of quotients that are rounded down, and of products.
use Rattle.std.proofs.Common.{ℕ, ◌+◌, ◌*◌, ◌≤◌, inl, inr, arith, ◌-◌, ◌/◌, ◌≡◌, subst}
use Rattle.std.specs.Prelude.{ℤ, pos, negsuc, unsigned_abs}
use Rattle.std.specs.Int.{int_div_euclid, w32}
use Rattle.std.specs.Int.RustNames.{FitsSigned}
use Rattle.std.proofs.Math.Nat.{mul-le-mul, div-le_of_le-mul}
use Rattle.std.proofs.lemmas.Int.{ints}
use Rattle.geo_integer.specs.Project.{IsBetween}

-- half of a number within twice a bound is within the bound
pub half-bound : (z : ℤ) (n : ℕ) → unsigned_abs z ≤ 2 * n → unsigned_abs (int_div_euclid z (pos 2)) ≤ n
half-bound (pos a) n h = omega arith
half-bound (negsuc a) n h = omega arith

-- what lies between two numbers that fit a width fits it
pub fits-between : (a b q : ℤ) → FitsSigned w32 a → FitsSigned w32 b → IsBetween a b q → FitsSigned w32 q
fits-between a b q f g h = elim h as (λ _. FitsSigned w32 q) [ inl up ↦ omega (arith, ints) | inr down ↦ omega (arith, ints) ]

-- squares of parts of a difference, by the bounds of the parts
pub squares-bound : (x c y : ℕ) (a b d : ℕ) → x ≤ a → c ≤ b → y ≤ d → x * c * (x * c) + y * 65536 * (y * 65536) ≤ a * b * (a * b) + d * 65536 * (d * 65536)
squares-bound x c y a b d p q r =
    let e : x * c ≤ a * b = mul-le-mul p q in
    let n : y * 65536 ≤ d * 65536 = omega arith in
    omega (arith, mul-le-mul e e, mul-le-mul n n)

-- the tilt of a direction is at most 45 degrees
tilt-parts : (m d : ℕ) → 45000 * m * (m + d) + 15640 * m * d ≤ (m + d) * (m + d) * 45000
tilt-parts m d = omega arith

pub tilt-bound : (m n : ℕ) → m ≤ n → (45000 * m * n + 15640 * m * (n - m)) / (n * n) ≤ 45000
tilt-bound m n h =
    let whole : m + (n - m) ≡ n = omega arith in
    let P : ℕ → Type 0 = λ k. 45000 * m * k + 15640 * m * (n - m) ≤ k * k * 45000 in
    div-le_of_le-mul (n * n) (subst P whole (tilt-parts m (n - m)))
