-- The limits that are kept rise as all do.
use Rattle.std.proofs.Common.{ℕ, sym, ◌∙◌, subst, arith, suc, zero, nat_lt}
use Rattle.std.specs.List.Sorted.{IsStrictlyIncreasing}
use Rattle.std.proofs.lemmas.List.Kept.{IsStrictlyIncreasing-filter}
use Rattle.customized.specs.Framing.{all_limits, limits_below}
use Rattle.customized.proofs.roads.Roads.for_server.Goals as goal

rising : IsStrictlyIncreasing all_limits
rising zero lt = omega arith
rising (suc zero) lt = omega arith
rising (suc (suc zero)) lt = omega arith
rising (suc (suc (suc zero))) lt = omega arith
rising (suc (suc (suc (suc k)))) lt = absurd (omega arith)

rising_below : (n : ℕ) → IsStrictlyIncreasing (limits_below n all_limits)
rising_below n = IsStrictlyIncreasing-filter (λ limit. nat_lt limit n) all_limits rising

pub of-requires-clause-ascending : goal.of-requires-clause-ascending
of-requires-clause-ascending c = subst IsStrictlyIncreasing (sym (c.deref.ensures.value ∙ c.in_ok-limits.ensures)) (rising_below c.vertices-vertices.result)
