use Rattle.std.proofs.Common.{◌≡◌, ℕ, ◌≤◌, List, ◌∷◌, [], length, reverse}
use Rattle.through_query.specs.Layers.{GoesBack, back}
use Rattle.through_query.proofs.chains.states_back.Given as goal

-- the states so far, from the last place back, go on to a first place as those of the last place do
abbrev pub invariant-loop-number : goal.invariant-loop-number
invariant-loop-number l = record {
  inside : l.number ≤ length l.befores;
  more : List ℕ;
  states : reverse l.states.items ≡ l.state ∷ more;
  same : back l.number l.befores (l.state ∷ more) ≡ back (length l.befores) l.befores (l.last ∷ []);
  goes : GoesBack l.number l.befores l.state;
}

abbrev pub decreases-loop-number : goal.decreases-loop-number
decreases-loop-number l = l.number
