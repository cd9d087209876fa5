use Rattle.std.proofs.Common.{◌≡◌, ◌++◌, take, drop}
use Rattle.snap_index.specs.Candidates.{with_candidate}
use Rattle.snap_index.proofs.candidates.put.Given as goal

-- the slots so far, and those to come with what moves on
abbrev pub invariant-loop-i : goal.invariant-loop-i
invariant-loop-i l = take l.i l.slots ++ with_candidate l.moved (drop l.i l.slots) ≡ with_candidate l.fn.candidate l.fn.slots
