-- Parts of numbers, in 1024ths and rounded down.
use Rattle.std.proofs.Common.{◌≡◌, ℕ, ◌+◌, ◌-◌, ◌*◌, ◌/◌, ◌≤◌, Bool, true, false, if◌then◌else◌, arith}
use Rattle.std.proofs.Math.Nat.{div-le_of_le-mul, mul-le-mul_left}

-- a part of a number is at most the number
part-whole : (x n : ℕ) → n ≤ 1024 → x * n / 1024 ≤ x
part-whole x n h = let e : x * n ≤ x * 1024 = mul-le-mul_left x h in div-le_of_le-mul 1024 (omega (arith, e))

-- and at most a longer part
part-longer : (x m n : ℕ) → m ≤ n → x * m / 1024 ≤ x * n / 1024
part-longer x m n h = let e : x * m ≤ x * n = mul-le-mul_left x h in omega (arith, e)

-- with the rest it is the number
pub part-rest : (x n : ℕ) → n ≤ 1024 → x ≡ x * n / 1024 + (x - x * n / 1024)
part-rest x n h = let e = part-whole x n h in omega (arith, e)

-- with what a longer part has more it is the longer part
pub part-more : (x m n : ℕ) → m ≤ n → x * n / 1024 ≡ x * m / 1024 + (x * n / 1024 - x * m / 1024)
part-more x m n h = let e = part-longer x m n h in omega (arith, e)

-- it is within each bound of the number
pub part-within : (x n most : ℕ) → n ≤ 1024 → x ≤ most → x * n / 1024 ≤ most
part-within x n most h k = let e = part-whole x n h in omega (arith, e, k)

-- and so is the rest
pub rest-within : (x a b most : ℕ) → x ≡ a + b → x ≤ most → b ≤ most
rest-within x a b most e h = omega (arith, e, h)

-- what is left is at most the whole
pub minus-within : (n m : ℕ) → n - m ≤ n
minus-within n m = omega arith

-- one of two numbers is within a bound of both
pub if-within : (b : Bool) (x y most : ℕ) → x ≤ most → y ≤ most → (if b then x else y) ≤ most
if-within true x y most h k = h
if-within false x y most h k = k
