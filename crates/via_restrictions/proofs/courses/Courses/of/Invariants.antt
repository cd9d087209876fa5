use Rattle.std.proofs.Common.{drop}
use Rattle.via_restrictions.specs.ViaParts.{AreNumbers}
use Rattle.via_restrictions.proofs.CourseLemmas.{AreShutFrom}
use Rattle.via_restrictions.proofs.courses.Courses.of.Given as goal

-- what the restrictions from number i on forbid
abbrev pub invariant-loop-i : goal.invariant-loop-i
invariant-loop-i l = record {
  numbers : AreNumbers l.rules l.courses.numbers;
  shut : AreShutFrom l.rules (drop l.i l.rules) l.courses.forbidden.ways l.courses.only.firsts;
}
