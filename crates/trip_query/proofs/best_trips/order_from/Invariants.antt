use Rattle.std.proofs.Common.{◌^◌, ◌<◌, length}
use Rattle.trip_query.specs.Trips.{lists_of}
use Rattle.trip_query.proofs.Ending.{GoesOn}
use Rattle.trip_query.proofs.best_trips.order_from.Given as goal

abbrev pub invariant-loop-step : goal.invariant-loop-step
invariant-loop-step g l = record {
  inside : l.at < length l.paid.rows.now;
  few : l.set < 2 ^ length l.paid.rows.now;
  goes : GoesOn g.C.Cost.ops (lists_of l.paid.rows.now) l.paid.ends.items (lists_of l.tails) l.all l.place l.order.items l.set l.at;
}

-- a place less each time
abbrev pub decreases-loop-step : goal.decreases-loop-step
decreases-loop-step g l = l.set
