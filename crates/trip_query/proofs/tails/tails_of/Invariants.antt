use Rattle.trip_query.specs.Tails.{AreRowsOfTails}
use Rattle.trip_query.proofs.tails.tails_of.Given as goal

-- the tails of the sets so far
abbrev pub invariant-loop-set : goal.invariant-loop-set
invariant-loop-set g l = AreRowsOfTails g.C.Cost.ops l.paid.rows.now l.paid.ends.items l.set l.tails.items
