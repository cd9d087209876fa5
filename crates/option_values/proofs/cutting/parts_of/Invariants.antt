use Rattle.std.proofs.Common.{◌≡◌, eqb, length, take}
use Rattle.std.specs.List.{slice_split}
use Rattle.option_values.proofs.cutting.parts_of.Given as goal

-- the parts so far
abbrev pub invariant-loop-part : goal.invariant-loop-part
invariant-loop-part l = l.parts.items ≡ take (length l.yielded) (slice_split (λ b. eqb b l.fn.separator) l.text)
