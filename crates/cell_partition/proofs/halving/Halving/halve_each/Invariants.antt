use Rattle.std.proofs.Common.{List, take}
use Rattle.cell_partition.specs.declared.spot.Spot.{Spot}
use Rattle.cell_partition.specs.Halving.{AreHalved}
use Rattle.cell_partition.specs.Parts.{AreParts}
use Rattle.cell_partition.proofs.halving.Halving.halve_each.Given as goal

-- the parts that stand above
abbrev pub ghost-part : goal.ghost-part
ghost-part g a = g.above

-- the parts before this number are halved on
abbrev pub invariant-loop-number : goal.invariant-loop-number
invariant-loop-number g l = (next : List (List Spot)) × AreHalved l.self.limit (take l.number g.above) next × AreParts l.halves next
