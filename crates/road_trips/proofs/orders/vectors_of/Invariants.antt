use Rattle.std.proofs.Common.{◌≡◌, take}
use Rattle.trip_query.specs.Trips.{lists_of}
use Rattle.road_trips.proofs.orders.vectors_of.Given as goal

-- the rows so far
abbrev pub invariant-loop-row : goal.invariant-loop-row
invariant-loop-row l = lists_of l.vectors.items ≡ take l.row-index l.all
