-- no such byte so far
use Rattle.std.proofs.Common.{◌≡◌, ℕ, ◌<◌, ◌≤◌, ◌-◌, eqb, false, get_or, length}
use Rattle.opl_read.proofs.cutting.front_without.Given as goal

abbrev pub invariant-loop-from : goal.invariant-loop-from
invariant-loop-from l = record {
  within : l.from ≤ length l.text;
  none : (k : ℕ) → k < l.from → eqb (get_or l.text k 0) l.byte ≡ false;
}

abbrev pub decreases-loop-from : goal.decreases-loop-from
decreases-loop-from l = length l.text - l.from
