use Rattle.std.proofs.Common.{◌-◌, ◌<◌}
use Rattle.route_server.specs.QueryRule.{QueryRule}
use Rattle.route_server.specs.Seats.{seat_state}
use Rattle.http_session.specs.SoFar.{SoFar}
use Rattle.route_server.proofs.serving.serve_requests.Given as goal

-- so many requests were answered, and none closed
abbrev pub invariant-requests : goal.invariant-requests
invariant-requests g l = record {
  so_far : SoFar (QueryRule (λ e. g.A.Answering.says e.value e.number)) (seat_state (g.S.Reading.seen l.initial.seat) (g.S.Reading.learned l.initial.seat) (g.S.Reading.reads l.initial.seat)) (seat_state (g.S.Reading.seen l.seat) (g.S.Reading.learned l.seat) (g.S.Reading.reads l.seat))
      (g.C.Conn.state l.initial.conn)
      (g.C.Conn.state l.conn) l.unread l.replied;
  kin : (x : _) → g.S.Reading.kin l.seat x → g.S.Reading.kin l.initial.seat x;
  below : l.replied < 100;
}

-- the requests that are left
abbrev pub decreases-requests : goal.decreases-requests
decreases-requests g l = 100 - l.replied
