use Rattle.std.proofs.Common.{◌-◌, ◌<◌, false}
use Rattle.http_session.specs.SoFar.{SoFar}
use Rattle.route_server.specs.ControlRule.{ControlRule, desk_state}
use Rattle.route_server.proofs.control_serving.control_requests.Given as goal

-- so many requests were answered, and none closed
abbrev pub invariant-requests : goal.invariant-requests
invariant-requests g l = record {
  so_far : SoFar (ControlRule (g.A.Controlling.controls l.fn.controlling)) (desk_state (g.P.Publishing.list l.initial.desk) false) (desk_state (g.P.Publishing.list l.desk) false)
      (g.C.Conn.state l.initial.conn) (g.C.Conn.state l.conn) l.unread l.replied;
  kin : (x : _) → g.P.Publishing.kin l.initial.desk x → g.P.Publishing.kin l.desk x;
  below : l.replied < 100;
}

-- the requests that are left
abbrev pub decreases-requests : goal.decreases-requests
decreases-requests g l = 100 - l.replied
