use Rattle.std.proofs.Common.{◌+◌, ◌≤◌}
use Rattle.opl_read.proofs.cutting.entry_count.Given as goal

-- a byte counts once at the most
abbrev pub invariant-loop-byte : goal.invariant-loop-byte
invariant-loop-byte l = l.count ≤ l.byte-index + 1
