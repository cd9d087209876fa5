use Rattle.through_query.specs.Layers.{IsStart}
use Rattle.through_query.proofs.layers.first_sums.Given as goal

-- nothing is paid at the states so far
abbrev pub invariant-loop : goal.invariant-loop
invariant-loop l = IsStart l.counter l.sums.items
