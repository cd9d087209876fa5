use Rattle.std.proofs.Common.{◌≡◌, ◌++◌, length, map, take}
use Rattle.route_steps.specs.Steps.{pieces, step_between}
use Rattle.route_steps.proofs.walk_steps.push_steps.Given as goal

-- the steps of the pieces so far are added
abbrev pub invariant-loop-k : goal.invariant-loop-k
invariant-loop-k l =
    l.steps.items ≡ l.fn.steps.items ++ map (step_between l.network l.walk l.course.points l.course.paid l.course.turns) (take l.k (pieces l.begins (length l.walk)))
