use Rattle.std.proofs.Common.{◌≡◌, drop}
use Rattle.via_restrictions.specs.ViaWays.{against}
use Rattle.via_restrictions.proofs.via_ways.against_of.Given as goal

-- those from number i on stand there
abbrev pub invariant-loop-i : goal.invariant-loop-i
invariant-loop-i l = l.list.items ≡ against (drop l.i l.run)
