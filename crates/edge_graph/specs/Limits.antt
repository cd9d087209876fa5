-- The most copies of vertices that a network may have (this project's own limit).
use Rattle.std.specs.Prelude.{ℕ, ◌^◌}

-- the most copies of vertices in the graph that is searched
unfoldable pub most_copies : ℕ
most_copies = 2 ^ 20
