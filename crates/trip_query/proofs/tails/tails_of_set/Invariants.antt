use Rattle.std.proofs.Common.{◌≡◌, ℕ, ◌<◌, length, None, slice_index_or}
use Rattle.trip_query.specs.Tails.{IsTail}
use Rattle.trip_query.specs.Trips.{lists_of}
use Rattle.trip_query.proofs.tails.tails_of_set.Given as goal

-- the tails from the places so far
abbrev pub invariant-loop-place : goal.invariant-loop-place
invariant-loop-place g l = record {
  size : length l.values.items ≡ l.place;
  each : (k : ℕ) → k < l.place → IsTail g.C.Cost.ops (lists_of l.paid.rows.now) l.paid.ends.items l.set k (slice_index_or l.values.items k None);
}
