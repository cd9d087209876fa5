use Rattle.std.proofs.Common.{◌-◌, ◌≤◌}
use Rattle.http_session.specs.Filling.{BodySoFar}
use Rattle.http_session.proofs.bodies.take_body.Given as goal

-- so much of the body was taken
abbrev pub invariant-takes : goal.invariant-takes
invariant-takes g l = record {
  so_far : BodySoFar (g.C.Conn.state l.initial.conn) (g.C.Conn.state l.conn) l.initial.unread l.unread l.kept l.done;
  within : l.done ≤ l.size;
}

-- what is left of it
abbrev pub decreases-takes : goal.decreases-takes
decreases-takes g l = l.size - l.done
