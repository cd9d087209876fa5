-- none so far
use Rattle.std.proofs.Common.{◌≡◌, ℕ, ◌<◌, true, false, eqb, get_or}
use Rattle.opl_read.proofs.cutting.all_differ.Given as goal

abbrev pub invariant-loop-other : goal.invariant-loop-other
invariant-loop-other l = l.differ ≡ true → (k : ℕ) → k < l.other-index → eqb (get_or l.bytes k 0) l.byte ≡ false
