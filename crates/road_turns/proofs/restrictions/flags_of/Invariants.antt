use Rattle.std.proofs.Common.{◌≡◌, map, take}
use Rattle.road_turns.specs.Restrictions.{applies}
use Rattle.road_turns.proofs.restrictions.flags_of.Given as goal

-- the rules so far are judged
abbrev pub invariant-loop-i : goal.invariant-loop-i
invariant-loop-i l = l.flags.items ≡ map (applies l.roads) (take l.i l.rules.kept)
