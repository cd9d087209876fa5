use Rattle.std.proofs.Common.{◌≡◌, ◌++◌, take}
use Rattle.road_turns.specs.TurnParts.{turns_onto}
use Rattle.road_turns.proofs.turn_lists.push_row.Given as goal

-- the turns onto those so far are added
abbrev pub invariant-loop-e : goal.invariant-loop-e
invariant-loop-e l = l.turns.items ≡ l.fn.turns.items ++ turns_onto l.v (take l.e-index l.row)
