use Rattle.path_unpack.specs.Finer.{StandFor, AreUpTo}
use Rattle.path_unpack.proofs.refining.arcs_of.Given as goal

-- what stands for the hops has no cell above the level
abbrev pub invariant-loop-level : goal.invariant-loop-level
invariant-loop-level g l = record {
  stand : StandFor g.C.Cost.ops l.overlay.frame.now l.overlay.weights.now l.first l.hops l.finer.items;
  low : AreUpTo l.level l.finer.items;
}

abbrev pub decreases-loop-level : goal.decreases-loop-level
decreases-loop-level g l = l.level
