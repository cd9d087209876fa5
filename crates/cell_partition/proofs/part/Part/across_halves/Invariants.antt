use Rattle.std.proofs.Common.{◌≡◌, filter, not, take}
use Rattle.cell_partition.specs.declared.spot.Spot.{Spot}
use Rattle.cell_partition.specs.Spots.{comes_before}
use Rattle.cell_partition.proofs.part.Part.across_halves.Given as goal

-- the spots so far are parted by whether they come before the bound
abbrev pub invariant-loop-spot : goal.invariant-loop-spot
invariant-loop-spot l = record {
  first : l.first.items ≡ filter (λ (spot : Spot). comes_before l.self.axis spot l.bound) (take l.spot-index l.self.across.now);
  second : l.second.items ≡ filter (λ (spot : Spot). not (comes_before l.self.axis spot l.bound)) (take l.spot-index l.self.across.now);
}
