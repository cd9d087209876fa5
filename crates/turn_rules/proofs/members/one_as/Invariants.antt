use Rattle.std.proofs.Common.{◌≡◌, drop}
use Rattle.turn_rules.specs.Rules.{members_as, one_in}
use Rattle.turn_rules.proofs.MemberLemmas.{one_with}
use Rattle.turn_rules.proofs.members.one_as.Given as goal

abbrev pub invariant-loop-member : goal.invariant-loop-member
invariant-loop-member l = one_in l.kind (members_as l.role l.members) ≡ one_with l.kind l.one (members_as l.role (drop l.member-index l.members))
