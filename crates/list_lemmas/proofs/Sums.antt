-- What a number of equal parts comes to.
use Rattle.std.proofs.Common.{ℕ, suc, ◌+◌, ◌*◌, ◌^◌, ◌<◌, ◌≤◌, arith}

pub no_parts : (m k : ℕ) → m ≤ m + 0 * k
no_parts m k = omega arith

-- the first part apart from the rest
pub one_part_more : (m k l : ℕ) → (m + k) + l * k ≤ m + suc l * k
one_part_more m k l = omega arith

pub parts_alone : (l k : ℕ) → 0 + l * k ≤ l * k
parts_alone l k = omega arith

-- fewer than n parts of two, n not above 2^27
pub twos_within : (n l : ℕ) → n ≤ 2 ^ 27 → l < n → l * 2 ≤ 2 ^ 28
twos_within n l few lt = omega arith

-- fewer than n parts of two, and three of one
pub twos_and_three : (n l : ℕ) → l < n → 1 + l * 2 + 1 + 1 ≤ 2 * n + 1
twos_and_three n l lt = omega arith

pub one_within : 1 ≤ 2 ^ 28
one_within = omega arith

pub two_within : 2 ^ 28 + 2 ^ 28 ≤ 2 ^ 29
two_within = omega arith

pub three_within : 1 + 2 ^ 28 + 2 ^ 28 + 1 ≤ 2 ^ 31
three_within = omega arith
