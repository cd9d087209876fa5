use Rattle.std.proofs.Common.{length, take}
use Rattle.std.specs.List.{AllZip}
use Rattle.cell_frame.specs.Cliqued.{AreExact}
use Rattle.class_sets.specs.Exacting.{AreCounted}
use Rattle.class_sets.proofs.recustomizing.recustomize_all.Given as goal

-- each of the weightings so far has its cliques, and its searches are counted
abbrev pub invariant-loop-k : goal.invariant-loop-k
invariant-loop-k g l = record {
  exact : AllZip (λ w cliques. AreExact g.C.Cost.ops l.frame w cliques (length l.frame.cells.levels)) (take l.k l.weights) l.sets.items;
  counted : AreCounted l.frame (take l.k l.changed) l.searches;
}
