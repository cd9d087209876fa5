use Rattle.std.proofs.Common.{eqb, length}
use Rattle.std.specs.List.{slice_split}
use Rattle.url_read.specs.Judging.{is_legal}
use Rattle.url_read.proofs.Judged.{AreLegal}
use Rattle.url_read.proofs.judging.check_options.Given as goal

-- the options so far are legal
abbrev pub invariant-loop-option : goal.invariant-loop-option
invariant-loop-option l = AreLegal (is_legal l.service) (slice_split (λ b. eqb b 38) l.query) (length l.yielded)
