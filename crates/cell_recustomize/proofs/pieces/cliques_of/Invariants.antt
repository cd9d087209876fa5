use Rattle.cell_customize.specs.Levels.{AreMade}
use Rattle.cell_recustomize.proofs.pieces.cliques_of.Given as goal

-- the cells so far have their cliques
abbrev pub invariant-loop-number : goal.invariant-loop-number
invariant-loop-number g l = AreMade g.C.Cost.ops l.frame l.weights l.level l.from l.number (record { first = l.first.items; values = l.values })
