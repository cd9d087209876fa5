use Rattle.trip_query.specs.Tails.{IsListOf, begin_at, end_at}
use Rattle.trip_query.specs.Trips.{lists_of}
use Rattle.trip_query.proofs.paid.paid_by.Given as goal

-- what is paid at the places so far
abbrev pub invariant-loop-place : goal.invariant-loop-place
invariant-loop-place g l = record {
  begins : IsListOf (begin_at g.C.Cost.ops (lists_of l.rows) l.rule) l.place l.begins.items;
  ends : IsListOf (end_at g.C.Cost.ops (lists_of l.rows) l.rule) l.place l.ends.items;
}
