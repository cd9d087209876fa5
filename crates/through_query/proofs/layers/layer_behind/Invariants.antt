use Rattle.through_query.specs.Layers.{AreArrivals}
use Rattle.through_query.proofs.layers.layer_behind.Given as goal

-- the states so far
abbrev pub invariant-loop-end : goal.invariant-loop-end
invariant-loop-end l = AreArrivals l.sums l.leg l.end l.reached.items l.befores.items
