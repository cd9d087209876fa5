use Rattle.std.proofs.Common.{◌-◌, length}
use Rattle.http_session.specs.Coming.{Grows, IsSteady}
use Rattle.http_session.proofs.coming.next_head.Given as goal

-- bytes were taken, and nothing failed
abbrev pub invariant-takes : goal.invariant-takes
invariant-takes g l = record {
  grows : Grows (g.C.Conn.state l.initial.conn) (g.C.Conn.state l.conn) l.initial.unread l.unread;
  steady : IsSteady (g.C.Conn.state l.initial.conn) (g.C.Conn.state l.conn);
}

-- the room that is left
abbrev pub decreases-takes : goal.decreases-takes
decreases-takes g l = 8192 - length l.unread
