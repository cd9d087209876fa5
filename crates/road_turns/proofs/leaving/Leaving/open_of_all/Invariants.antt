use Rattle.std.proofs.Common.{◌≡◌, take}
use Rattle.road_turns.specs.Leaving.{exits_in, open_exits}
use Rattle.road_turns.proofs.leaving.Leaving.open_of_all.Given as goal

-- those of the runs so far
abbrev pub invariant-loop-run : goal.invariant-loop-run
invariant-loop-run l = l.row.items ≡ open_exits l.restrictions.kept l.node l.from (exits_in (take l.run-index l.run-items))
