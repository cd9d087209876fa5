use Rattle.std.proofs.Common.{take}
use Rattle.std.specs.List.{AllZip, zip}
use Rattle.customized.specs.Exact.{AreChangesBetween}
use Rattle.customized.proofs.bases.changes.Given as goal

-- the changes so far are known
abbrev pub invariant-loop-place : goal.invariant-loop-place
invariant-loop-place l = AllZip AreChangesBetween (take l.place (zip l.before l.after)) l.changes.items
