-- no blank so far
use Rattle.std.proofs.Common.{◌≡◌, ℕ, ◌<◌, ◌≤◌, ◌-◌, false, get_or, length}
use Rattle.opl_read.specs.Cutting.{is_blank}
use Rattle.opl_read.proofs.cutting.front_without_blank.Given as goal

abbrev pub invariant-loop-from : goal.invariant-loop-from
invariant-loop-from l = record {
  within : l.from ≤ length l.text;
  none : (k : ℕ) → k < l.from → is_blank (get_or l.text k 0) ≡ false;
}

abbrev pub decreases-loop-from : goal.decreases-loop-from
decreases-loop-from l = length l.text - l.from
