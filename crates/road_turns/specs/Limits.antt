-- The most turns that a network may have (this project's own limit).
use Rattle.std.specs.Prelude.{ℕ, ◌^◌}

-- the most turns, and the most arcs of the graph that is searched
unfoldable pub most_turns : ℕ
most_turns = 2 ^ 27
