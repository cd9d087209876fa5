use Rattle.std.proofs.Common.{◌≡◌, ℤ, ◌+◌, Vec, drop, length}
use Rattle.std.specs.Global.{Global}
use Rattle.via_restrictions.specs.ViaParts.{number_in}
use Rattle.via_restrictions.specs.ViaWays.{first_like}
use Rattle.via_restrictions.proofs.courses.numbers_of.Given as goal

-- the courses of the restrictions from number i on have the numbers of the first among these
abbrev pub invariant-loop-i : goal.invariant-loop-i
invariant-loop-i l = (ways : Vec ℤ Global) → number_in l.numbers (length l.rules) ways ≡ l.i + first_like (drop l.i l.rules) ways.items
