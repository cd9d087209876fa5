use Rattle.std.proofs.Common.{◌≡◌, ◌*◌, ◌^◌, ◌≤◌, length}
use Rattle.cell_frame.specs.Cliqued.{AreExact}
use Rattle.cell_recustomize.specs.Touched.{IsEntryCount}
use Rattle.cell_recustomize.proofs.Counted.{IsTouchedUpTo}
use Rattle.cell_recustomize.proofs.recustomizing.recustomize.Given as goal

-- the levels so far are exact, and the entries of their touched cells counted
abbrev pub invariant-loop-below : goal.invariant-loop-below
invariant-loop-below g l = record {
  count : length l.cliques.rows ≡ l.below;
  exact : AreExact g.C.Cost.ops l.frame l.weights l.cliques l.below;
  touched : IsEntryCount l.frame (IsTouchedUpTo l.frame l.vertices l.arcs l.below) l.searches;
  few : l.searches ≤ l.below * 2 ^ 32;
}
