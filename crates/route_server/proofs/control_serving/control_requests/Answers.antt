use Rattle.std.proofs.Common.{◌≡◌, Bool, true, false, inl, inr, refl, subst, arith}
use Rattle.http_head.specs.Fields.{closes, fields_of}
use Rattle.http_session.specs.Coming.{IsNoHead}
use Rattle.http_session.specs.SoFar.{session_closed, session_cut, session_end, session_fault, session_refused, session_short, so_far_grows, so_far_reply, so_far_start}
use Rattle.route_server.specs.ControlRule.{ControlRule, IsControlReply, IsPartOfRequest, desk_state}
use Rattle.route_server.specs.QueryRule.{closes_at}
use Rattle.route_server.proofs.ControlLaws.{control_exchange, control_not_last, control_rule_of, keeps_body, no_stop, stop_cut, stopped_closes}
use Rattle.route_server.proofs.control_serving.control_requests.Goals as goal

pub requests-init : goal.requests-init
requests-init g c = record {
  so_far = so_far_start (ControlRule (g.A.Controlling.controls c.args.controlling.now)) (desk_state (g.P.Publishing.list c.args.desk.now) false) (g.C.Conn.state c.args.conn.now) c.new-unread.result c.new-unread.ensures;
  kin = λ x kin. kin;
  below = omega arith;
}

pub put_control-requires-clause-body : goal.put_control-requires-clause-body
put_control-requires-clause-body g c = λ lifetimes lived.
    let read = c.in-Whole.ensures in
    keeps_body c.in-Whole.taken.asked c.in-Whole.taken.kept read.body read.holds read.size read.speeds

-- a stop was answered
pub returns-then-stopped-clause-session : goal.returns-then-stopped-clause-session
returns-then-stopped-clause-session g c =
    let controls = g.A.Controlling.controls c.args.controlling.now in
    let rule = ControlRule controls in
    let d0 = desk_state (g.P.Publishing.list c.args.desk.now) false in
    let d1 = desk_state (g.P.Publishing.list c.requests.desk) false in
    let c0 = g.C.Conn.state c.args.conn.now in
    let c1 = g.C.Conn.state c.requests.conn in
    let c2 = g.C.Conn.state c.next_request.new.conn in
    let u1 = c.requests.unread in
    let u2 = c.next_request.new.unread in
    let n = c.requests.replied in
    let read = c.in-Whole.ensures in
    let so_far = so_far_grows rule d0 d1 c0 c1 c2 u1 read.held n c.requests.invariant.so_far read.grows read.steady in
    let c3 = g.C.Conn.state c.put_control.new.conn in
    let list1 = g.P.Publishing.list c.requests.desk in
    let list2 = g.P.Publishing.list c.put_control.new.desk in
    let asked = c.in-Whole.taken.asked in
    let close = c.in-Whole.taken.close in
    let puts = c.in-Ok.ensures.puts read.body read.holds in
    let replies = subst (λ (b : Bool). IsControlReply controls list1 list2 asked read.body close b puts.0) c.if-stopped.true puts.1 in
    let x = control_exchange read.head read.body close puts.0 list2 true in
    let follows = control_rule_of controls n list1 list2 false true c1 c2 u1 u2 asked close c.in-Whole.taken.kept puts.0 read replies in
    session_closed rule IsNoHead IsPartOfRequest d0 d1 c0 c2 c3 read.held u2 n x so_far read.split follows
    (stopped_closes controls list1 list2 asked read.body (closes_at n read.head) close c.in-Ok.stopped puts.0 puts.1 c.if-stopped.true read.close_is) puts.2

-- the reply closes the connection
pub returns-then-close-clause-session : goal.returns-then-close-clause-session
returns-then-close-clause-session g c =
    let controls = g.A.Controlling.controls c.args.controlling.now in
    let rule = ControlRule controls in
    let d0 = desk_state (g.P.Publishing.list c.args.desk.now) false in
    let d1 = desk_state (g.P.Publishing.list c.requests.desk) false in
    let c0 = g.C.Conn.state c.args.conn.now in
    let c1 = g.C.Conn.state c.requests.conn in
    let c2 = g.C.Conn.state c.next_request.new.conn in
    let u1 = c.requests.unread in
    let u2 = c.next_request.new.unread in
    let n = c.requests.replied in
    let read = c.in-Whole.ensures in
    let so_far = so_far_grows rule d0 d1 c0 c1 c2 u1 read.held n c.requests.invariant.so_far read.grows read.steady in
    let c3 = g.C.Conn.state c.put_control.new.conn in
    let list1 = g.P.Publishing.list c.requests.desk in
    let list2 = g.P.Publishing.list c.put_control.new.desk in
    let asked = c.in-Whole.taken.asked in
    let close = c.in-Whole.taken.close in
    let puts = c.in-Ok.ensures.puts read.body read.holds in
    let replies = subst (λ (b : Bool). IsControlReply controls list1 list2 asked read.body close b puts.0) c.if-stopped.false puts.1 in
    let x = control_exchange read.head read.body close puts.0 list2 false in
    let follows = control_rule_of controls n list1 list2 false false c1 c2 u1 u2 asked close c.in-Whole.taken.kept puts.0 read replies in
    (false, session_closed rule IsNoHead IsPartOfRequest d0 d1 c0 c2 c3 read.held u2 n x so_far read.split follows c.if-close.true puts.2, no_stop)

-- and the next request follows
pub requests-preserved : goal.requests-preserved
requests-preserved g c =
    let controls = g.A.Controlling.controls c.args.controlling.now in
    let rule = ControlRule controls in
    let d0 = desk_state (g.P.Publishing.list c.args.desk.now) false in
    let d1 = desk_state (g.P.Publishing.list c.requests.desk) false in
    let c0 = g.C.Conn.state c.args.conn.now in
    let c1 = g.C.Conn.state c.requests.conn in
    let c2 = g.C.Conn.state c.next_request.new.conn in
    let u1 = c.requests.unread in
    let u2 = c.next_request.new.unread in
    let n = c.requests.replied in
    let read = c.in-Whole.ensures in
    let so_far = so_far_grows rule d0 d1 c0 c1 c2 u1 read.held n c.requests.invariant.so_far read.grows read.steady in
    let c3 = g.C.Conn.state c.put_control.new.conn in
    let list1 = g.P.Publishing.list c.requests.desk in
    let list2 = g.P.Publishing.list c.put_control.new.desk in
    let asked = c.in-Whole.taken.asked in
    let close = c.in-Whole.taken.close in
    let puts = c.in-Ok.ensures.puts read.body read.holds in
    let replies = subst (λ (b : Bool). IsControlReply controls list1 list2 asked read.body close b puts.0) c.if-stopped.false puts.1 in
    let x = control_exchange read.head read.body close puts.0 list2 false in
    let follows = control_rule_of controls n list1 list2 false false c1 c2 u1 u2 asked close c.in-Whole.taken.kept puts.0 read replies in
    record {
      so_far = so_far_reply rule d0 d1 c0 c2 c3 read.held u2 n x so_far read.split follows c.if-close.false puts.2;
      kin = λ x kin. c.in-Ok.ensures.kin_stays x (c.requests.invariant.kin x kin);
      below = control_not_last asked (closes read.head.minor (fields_of read.head)) close n read.close_is c.if-close.false c.requests.invariant.below;
    }

-- the output failed in a reply
pub returns-in-Err-clause-session : goal.returns-in-Err-clause-session
returns-in-Err-clause-session g c =
    let controls = g.A.Controlling.controls c.args.controlling.now in
    let rule = ControlRule controls in
    let d0 = desk_state (g.P.Publishing.list c.args.desk.now) false in
    let d1 = desk_state (g.P.Publishing.list c.requests.desk) false in
    let c0 = g.C.Conn.state c.args.conn.now in
    let c1 = g.C.Conn.state c.requests.conn in
    let c2 = g.C.Conn.state c.next_request.new.conn in
    let u1 = c.requests.unread in
    let u2 = c.next_request.new.unread in
    let n = c.requests.replied in
    let read = c.in-Whole.ensures in
    let so_far = so_far_grows rule d0 d1 c0 c1 c2 u1 read.held n c.requests.invariant.so_far read.grows read.steady in
    let c3 = g.C.Conn.state c.put_control.new.conn in
    let list1 = g.P.Publishing.list c.requests.desk in
    let list2 = g.P.Publishing.list c.put_control.new.desk in
    let asked = c.in-Whole.taken.asked in
    let close = c.in-Whole.taken.close in
    let puts = c.in-Err.ensures.puts read.body read.holds in
    let x = control_exchange read.head read.body close puts.1 list2 puts.0 in
    let follows = control_rule_of controls n list1 list2 false puts.0 c1 c2 u1 u2 asked close c.in-Whole.taken.kept puts.1 read puts.2 in
    let session = session_cut rule IsNoHead IsPartOfRequest d0 d1 c0 c2 c3 read.held u2 n x so_far read.split follows puts.3 in
    (puts.0, session, λ on. (refl, stop_cut controls (g.P.Publishing.list c.args.desk.now) list2 c0 c3 puts.0 session on))

-- no head
pub returns-in-NoHead-clause-session : goal.returns-in-NoHead-clause-session
returns-in-NoHead-clause-session g c =
    let controls = g.A.Controlling.controls c.args.controlling.now in
    let rule = ControlRule controls in
    let d0 = desk_state (g.P.Publishing.list c.args.desk.now) false in
    let d1 = desk_state (g.P.Publishing.list c.requests.desk) false in
    let c0 = g.C.Conn.state c.args.conn.now in
    let c1 = g.C.Conn.state c.requests.conn in
    let c2 = g.C.Conn.state c.next_request.new.conn in
    let u1 = c.requests.unread in
    let u2 = c.next_request.new.unread in
    let n = c.requests.replied in
    let comes = c.in-NoHead.ensures in
    let so_far = so_far_grows rule d0 d1 c0 c1 c2 u1 u2 n c.requests.invariant.so_far comes.0 comes.2 in
    (false, session_refused rule IsNoHead IsPartOfRequest d0 d1 c0 c2 (g.C.Conn.state c.refuse.new.conn) u2 n c.refuse.result so_far comes.1 c.refuse.ensures, no_stop)

-- the end of the input
pub returns-in-End-clause-session : goal.returns-in-End-clause-session
returns-in-End-clause-session g c =
    let controls = g.A.Controlling.controls c.args.controlling.now in
    let rule = ControlRule controls in
    let d0 = desk_state (g.P.Publishing.list c.args.desk.now) false in
    let d1 = desk_state (g.P.Publishing.list c.requests.desk) false in
    let c0 = g.C.Conn.state c.args.conn.now in
    let c1 = g.C.Conn.state c.requests.conn in
    let c2 = g.C.Conn.state c.next_request.new.conn in
    let u1 = c.requests.unread in
    let u2 = c.next_request.new.unread in
    let n = c.requests.replied in
    let comes = c.in-End.ensures in
    let so_far = so_far_grows rule d0 d1 c0 c1 c2 u1 u2 n c.requests.invariant.so_far comes.0 comes.3 in
    (false, session_end rule IsNoHead IsPartOfRequest d0 d1 c0 c2 u2 n so_far comes.1 comes.2, no_stop)

-- the end of the input inside a request
pub returns-in-Short-clause-session : goal.returns-in-Short-clause-session
returns-in-Short-clause-session g c =
    let controls = g.A.Controlling.controls c.args.controlling.now in
    let rule = ControlRule controls in
    let d0 = desk_state (g.P.Publishing.list c.args.desk.now) false in
    let d1 = desk_state (g.P.Publishing.list c.requests.desk) false in
    let c0 = g.C.Conn.state c.args.conn.now in
    let c1 = g.C.Conn.state c.requests.conn in
    let c2 = g.C.Conn.state c.next_request.new.conn in
    let u1 = c.requests.unread in
    let u2 = c.next_request.new.unread in
    let n = c.requests.replied in
    let comes = c.in-Short.ensures in
    let so_far = so_far_grows rule d0 d1 c0 c1 c2 u1 comes.0.held n c.requests.invariant.so_far comes.0.grows comes.2 in
    (false, session_short rule IsNoHead IsPartOfRequest d0 d1 c0 c2 comes.0.held n so_far comes.0.is comes.1, no_stop)

-- the input failed
pub returns-in-Fault-clause-session : goal.returns-in-Fault-clause-session
returns-in-Fault-clause-session g c =
    let controls = g.A.Controlling.controls c.args.controlling.now in
    let rule = ControlRule controls in
    let d0 = desk_state (g.P.Publishing.list c.args.desk.now) false in
    let d1 = desk_state (g.P.Publishing.list c.requests.desk) false in
    let c0 = g.C.Conn.state c.args.conn.now in
    let c1 = g.C.Conn.state c.requests.conn in
    let c2 = g.C.Conn.state c.next_request.new.conn in
    let u1 = c.requests.unread in
    let u2 = c.next_request.new.unread in
    let n = c.requests.replied in
    let comes = c.in-Fault.ensures in
    (false, session_fault rule IsNoHead IsPartOfRequest d0 d1 c0 c1 c2 u1 comes.0.held n c.requests.invariant.so_far comes.0.grows comes.0.is comes.1, no_stop)
