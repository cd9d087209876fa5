use Rattle.cell_recustomize.proofs.ChangeLemmas.{AreChangesBelow}
use Rattle.cell_recustomize.proofs.changes.changed_arcs.Given as goal

-- the places so far where the two differ
abbrev pub invariant-loop-i : goal.invariant-loop-i
invariant-loop-i g l = AreChangesBelow l.old.arc l.new.arc l.places.items l.i
