use Rattle.std.proofs.Common.{◌-◌, length, take}
use Rattle.line_simplify.proofs.Farthest.{IsFarthestSoFar}
use Rattle.line_simplify.proofs.simplifying.farthest.Given as goal

abbrev pub invariant-loop-at : goal.invariant-loop-at
invariant-loop-at l = IsFarthestSoFar l.reach.limit l.line.from l.line.to (take l.at l.between) l.most l.farthest

-- the points that are left
abbrev pub decreases-loop-at : goal.decreases-loop-at
decreases-loop-at l = length l.between - l.at
