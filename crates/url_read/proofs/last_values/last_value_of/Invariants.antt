use Rattle.std.proofs.Common.{eqb, length}
use Rattle.std.specs.Option.{option_copied}
use Rattle.std.specs.List.{slice_split}
use Rattle.url_read.proofs.LastValues.{IsLast}
use Rattle.url_read.proofs.last_values.last_value_of.Given as goal

-- the last value among the options so far
abbrev pub invariant-loop-option : goal.invariant-loop-option
invariant-loop-option l = IsLast l.name (slice_split (λ b. eqb b 38) l.query) (option_copied l.last) (length l.yielded)
