use Rattle.std.proofs.Common.{◌≡◌, take}
use Rattle.way_profile.proofs.vehicle_profile.copy_of_classes.Given as goal

-- the classes so far are copied
abbrev pub invariant-loop-class : goal.invariant-loop-class
invariant-loop-class l = l.copy.items ≡ take l.class-index l.classes
