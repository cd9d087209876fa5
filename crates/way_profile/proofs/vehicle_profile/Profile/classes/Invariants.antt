use Rattle.std.proofs.Common.{◌≡◌, ◌++◌, map, filter, drop}
use Rattle.way_profile.specs.WayClasses.{is_of_class}
use Rattle.way_profile.proofs.vehicle_profile.Profile.classes.Given as goal

-- the names so far, and those of the classes that are left, are all
abbrev pub invariant-loop-class : goal.invariant-loop-class
invariant-loop-class l =
    l.names.items ++ map (λ class. class.0) (filter (is_of_class l.tags) (drop l.class-index l.class-items))
    ≡ map (λ class. class.0) (filter (is_of_class l.tags) l.class-items)
