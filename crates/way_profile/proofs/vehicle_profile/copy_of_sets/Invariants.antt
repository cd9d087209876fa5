use Rattle.std.proofs.Common.{◌≡◌, take}
use Rattle.way_profile.proofs.vehicle_profile.copy_of_sets.Given as goal

-- the sets so far are copied
abbrev pub invariant-loop-set : goal.invariant-loop-set
invariant-loop-set l = l.copy.items ≡ take l.set-index l.sets
