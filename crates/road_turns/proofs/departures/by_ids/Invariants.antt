use Rattle.std.proofs.Common.{◌≡◌, take}
use Rattle.road_turns.proofs.DepartureLemmas.{vertices_in}
use Rattle.road_turns.proofs.departures.by_ids.Given as goal

-- the vertices so far, in their order
abbrev pub invariant-loop-i : goal.invariant-loop-i
invariant-loop-i l = l.order.items ≡ take l.i (vertices_in l.all.items)
