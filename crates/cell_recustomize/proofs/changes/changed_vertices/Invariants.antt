use Rattle.cell_recustomize.proofs.ChangeLemmas.{AreChangesBelow}
use Rattle.cell_recustomize.proofs.changes.changed_vertices.Given as goal

-- the places so far where the two differ
abbrev pub invariant-loop-v : goal.invariant-loop-v
invariant-loop-v g l = AreChangesBelow l.old.vertex l.new.vertex l.places.items l.v
