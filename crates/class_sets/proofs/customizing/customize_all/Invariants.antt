use Rattle.std.proofs.Common.{length, take}
use Rattle.std.specs.List.{AllZip}
use Rattle.cell_frame.specs.Cliqued.{AreExact}
use Rattle.class_sets.proofs.customizing.customize_all.Given as goal

-- each of the weightings so far has its cliques
abbrev pub invariant-loop-weighting : goal.invariant-loop-weighting
invariant-loop-weighting g l = AllZip (λ w cliques. AreExact g.C.Cost.ops l.frame w cliques (length l.frame.cells.levels)) (take l.weighting-index l.weights) l.sets.items
