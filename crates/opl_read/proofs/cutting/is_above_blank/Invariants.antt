-- no blank so far
use Rattle.std.proofs.Common.{◌≡◌, ℕ, ◌<◌, true, false, get_or}
use Rattle.opl_read.specs.Cutting.{is_blank}
use Rattle.opl_read.proofs.cutting.is_above_blank.Given as goal

abbrev pub invariant-loop-byte : goal.invariant-loop-byte
invariant-loop-byte l = l.above ≡ true → (k : ℕ) → k < l.byte-index → is_blank (get_or l.bytes k 0) ≡ false
