-- The square root of a whole number, rounded down.
use Rattle.std.specs.Prelude.{ℕ, ◌+◌, ◌*◌, ◌<◌, ◌≤◌, zero, suc, nat_le, if◌then◌else◌}

-- r is the greatest number whose square is at most n
abbrev pub IsRoot : ℕ → ℕ → Type 0
IsRoot n r = (r * r ≤ n) × (n < (r + 1) * (r + 1))

-- the greatest number from 0 to `high` whose square is at most n
unfoldable pub greatest_root : ℕ → ℕ → ℕ
greatest_root n zero = 0
greatest_root n (suc high) = if nat_le (suc high * suc high) n then suc high else greatest_root n high

-- the greatest number whose square is at most n; no number above n has such a square
unfoldable pub root_of : ℕ → ℕ
root_of n = greatest_root n n
