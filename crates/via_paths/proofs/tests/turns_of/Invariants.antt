use Rattle.std.proofs.Common.{All, ◌<◌}
use Rattle.via_paths.proofs.tests.turns_of.Given as goal

-- each so far joins two vertices
abbrev pub invariant-loop-entry : goal.invariant-loop-entry
invariant-loop-entry g l = All (λ t. (t.0 < 8) × (t.1 < 8)) l.turns.items
