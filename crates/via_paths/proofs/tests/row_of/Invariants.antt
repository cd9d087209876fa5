use Rattle.std.proofs.Common.{All, ◌<◌}
use Rattle.via_paths.proofs.tests.row_of.Given as goal

-- each so far is a vertex
abbrev pub invariant-loop-text : goal.invariant-loop-text
invariant-loop-text g l = All (λ v. v < 8) l.vertices.items
