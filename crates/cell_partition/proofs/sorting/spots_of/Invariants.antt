use Rattle.std.proofs.Common.{◌≡◌, ◌++◌, drop}
use Rattle.cell_partition.specs.Spots.{spots_from, spots_of}
use Rattle.cell_partition.proofs.sorting.spots_of.Given as goal

-- the spots so far and those to come
abbrev pub invariant-loop-vertex : goal.invariant-loop-vertex
invariant-loop-vertex l = l.spots.items ++ spots_from l.vertex (drop l.vertex l.midpoints) ≡ spots_of l.midpoints
