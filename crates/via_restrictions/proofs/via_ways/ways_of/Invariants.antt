use Rattle.std.proofs.Common.{◌≡◌, ℤ, drop}
use Rattle.std.specs.HashSet.{contains}
use Rattle.std.specs.List.{list_any}
use Rattle.std.specs.Ordering.{int_eq}
use Rattle.turn_rules.specs.Rules.{is_among}
use Rattle.via_restrictions.proofs.via_ways.ways_of.Given as goal

-- those of the restrictions from number i on are added
abbrev pub invariant-loop-i : goal.invariant-loop-i
invariant-loop-i l = (way : ℤ) → contains int_eq l.ways way ≡ list_any (λ rule. is_among rule.via way) (drop l.i l.rules)
