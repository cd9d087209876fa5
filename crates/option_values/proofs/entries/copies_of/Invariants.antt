use Rattle.std.proofs.Common.{◌≡◌, replicate}
use Rattle.option_values.proofs.entries.copies_of.Given as goal

-- so many copies so far
abbrev pub invariant-loop : goal.invariant-loop
invariant-loop g l = l.copies.items ≡ replicate l.counter l.entry
