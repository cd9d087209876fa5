use Rattle.std.proofs.Common.{◌≡◌, []}
use Rattle.std.specs.Vec.{vec_len}
use Rattle.left_right.specs.Sides.{view}
use Rattle.metric_publish.specs.Calls.{Each}
use Rattle.metric_publish.proofs.opening.seats_at.Given as goal
use Rattle.metric_publish.specs.Published.{published}

-- as many seats as turns, and each is new
abbrev pub invariant-loop : goal.invariant-loop
invariant-loop g l =
    (vec_len l.all ≡ l.counter)
    × Each l.all.items (λ s. (s.seen.token.log ≡ published l.desk) × (s.learned.token.log ≡ published l.desk) × ((view s.reader.place).reads ≡ []))
