use Rattle.std.proofs.Common.{eqb, length}
use Rattle.std.specs.List.{slice_split}
use Rattle.option_values.proofs.AllRead.{IsFound}
use Rattle.option_values.proofs.entries.all_read.Given as goal

-- the entries so far are what the parts so far stand for
abbrev pub invariant-loop-text : goal.invariant-loop-text
invariant-loop-text g l = IsFound g.E.Entry.read (slice_split (λ b. eqb b 59) l.value) l.entries.items (length l.yielded)
