-- Counts that stand still at a last value: a count goes on from `before` by `n` to `min (before + n) last`.
use Rattle.std.proofs.Common.{◌≡◌, ℕ, ◌+◌, ◌<◌, ◌≤◌, min, arith}

-- nothing is less than nothing
pub none_less : {P : Type 0} → 0 < 0 → P
none_less less = absurd (omega arith)

-- a later count goes on to a later one
pub count_later : (last before mid n : ℕ) → before ≤ mid → min (before + n) last ≤ min (mid + n) last
count_later last before mid n later = omega arith

-- a count is at most its last value
pub count_within : (last mid now n : ℕ) → now ≡ min (mid + n) last → now ≤ last
count_within last mid now n counted = omega arith

-- going on by nothing
pub count_none : (last now : ℕ) → min now last ≡ min (now + 0) last
count_none last now = omega arith

-- going on twice, where the first count may be past its last value
pub count_then : (last before mid now m n : ℕ) → min mid last ≡ min (before + m) last → now ≡ min (mid + n) last → min now last ≡ min (before + (m + n)) last
count_then last before mid now m n first second = omega arith

-- a count that isn't past its last value is what it went on to
pub count_is : (last before now n : ℕ) → min now last ≡ min (before + n) last → now ≤ last → now ≡ min (before + n) last
count_is last before now n counted within = omega arith

-- going on by nothing shows what it went on to before
pub count_end : (last before mid now m n : ℕ) → min mid last ≡ min (before + m) last → n ≡ 0 → now ≡ min (mid + n) last → now ≡ min (before + m) last
count_end last before mid now m n first none second = omega arith
