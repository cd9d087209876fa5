use Rattle.std.proofs.Common.{◌≤◌, length, drop, map}
use Rattle.cell_partition.specs.declared.spot.Spot.{Spot}
use Rattle.cell_partition.specs.Bounds.{parts_at}
use Rattle.cell_partition.specs.Parts.{AreStanding}
use Rattle.cell_partition.proofs.Kept.{IsCut}
use Rattle.cell_partition.proofs.cutting.levels_of.Given as goal

-- the parts that lie at the bounds
abbrev pub ghost-halved : goal.ghost-halved
ghost-halved a = parts_at a.parts.bounds.items a.parts.along.items

-- the vertices of the parts that lie at the bounds
abbrev pub ghost-of : goal.ghost-of
ghost-of a = parts_at a.bounds.items (map (λ (spot : Spot). spot.vertex) a.spots.now)

-- the levels from this limit on are cut
abbrev pub invariant-loop-rest : goal.invariant-loop-rest
invariant-loop-rest l = record {
  within : l.rest ≤ length l.limits;
  standing : AreStanding l.parts (parts_at l.parts.bounds.items l.parts.along.items);
  cut : IsCut l.midpoints (drop l.rest l.limits) l.parts.along.items l.parts.bounds.items l.levels.items;
}

abbrev pub decreases-loop-rest : goal.decreases-loop-rest
decreases-loop-rest l = l.rest
