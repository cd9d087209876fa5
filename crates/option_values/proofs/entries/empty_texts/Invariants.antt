use Rattle.std.proofs.Common.{◌≡◌, [], replicate}
use Rattle.option_values.proofs.entries.empty_texts.Given as goal

-- so many empty texts so far
abbrev pub invariant-loop : goal.invariant-loop
invariant-loop l = l.texts.items ≡ replicate l.counter []
