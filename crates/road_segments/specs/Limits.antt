-- The most segments that a network may have (this project's own limit).
use Rattle.std.specs.Prelude.{◌≡◌, ℕ, ◌^◌, ◌<◌, ◌≤◌, Option, Some, None}

-- the most segments
unfoldable pub most_segments : ℕ
most_segments = 2 ^ 24

-- the answer is the count if it is at most so many, and else none
abbrev pub CountsUpTo : ℕ → ℕ → Option ℕ → Type 0
CountsUpTo count most (Some n) = (n ≡ count) × (count ≤ most)
CountsUpTo count most None = most < count

-- the answer is room for so many that is itself at most so much, or none where they are more
abbrev pub IsRoomFor : ℕ → ℕ → Option ℕ → Type 0
IsRoomFor count most (Some room) = (count ≤ room) × (room ≤ most)
IsRoomFor count most None = most < count
