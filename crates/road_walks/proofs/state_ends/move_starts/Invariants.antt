use Rattle.std.proofs.Common.{◌≡◌, ◌++◌, drop, map, take}
use Rattle.road_walks.specs.BetweenParts.{start_moved}
use Rattle.road_walks.proofs.state_ends.move_starts.Given as goal

-- so many of the first starts are moved, the others are the old ones
abbrev pub invariant-loop-number : goal.invariant-loop-number
invariant-loop-number l = l.starts.items ≡ map (start_moved l.vertex) (take l.number l.fn.starts.items) ++ drop l.number l.fn.starts.items
