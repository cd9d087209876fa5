use Rattle.std.proofs.Common.{◌≡◌, ℤ, drop}
use Rattle.road_segments.specs.Located.{spot_in}
use Rattle.road_segments.specs.Spots.{spot_at}
use Rattle.road_segments.proofs.spots.spots_of.Given as goal

-- the nodes from object i on have their spots
abbrev pub invariant-loop-i : goal.invariant-loop-i
invariant-loop-i l = (id : ℤ) → spot_in l.spots id ≡ spot_at l.profile (drop l.i l.objects) id
