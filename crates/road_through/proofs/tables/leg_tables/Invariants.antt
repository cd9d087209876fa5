use Rattle.std.proofs.Common.{take}
use Rattle.std.specs.List.{AllZip}
use Rattle.road_walks.specs.Legs.{legs_of}
use Rattle.road_through.specs.States.{IsTableOf}
use Rattle.road_through.proofs.tables.leg_tables.Given as goal

-- each of the legs so far has its table
abbrev pub invariant-loop-leg : goal.invariant-loop-leg
invariant-loop-leg g l = AllZip (IsTableOf l.under.road) (take l.leg (legs_of l.places)) l.tables.items
