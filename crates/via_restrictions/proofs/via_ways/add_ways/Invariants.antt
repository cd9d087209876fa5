use Rattle.std.proofs.Common.{◌≡◌, ℤ, ◌||◌, drop}
use Rattle.std.specs.HashSet.{contains}
use Rattle.std.specs.Ordering.{int_eq}
use Rattle.turn_rules.specs.Rules.{is_among}
use Rattle.via_restrictions.proofs.via_ways.add_ways.Given as goal

-- those from number i on are added
abbrev pub invariant-loop-i : goal.invariant-loop-i
invariant-loop-i l = (way : ℤ) → contains int_eq l.ways way ≡ (contains int_eq l.fn.ways way || is_among (drop l.i l.more) way)
