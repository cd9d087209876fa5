use Rattle.std.proofs.Common.{true, false, inr, refl, arith, drop}
use Rattle.http_session.specs.Coming.{IsPartOfHead}
use Rattle.route_server.specs.QueryRule.{IsUnserved, QueryRule}
use Rattle.route_server.specs.Seats.{seat_state}
use Rattle.metric_publish.specs.declared.entry.Entry.{Entry}
use Rattle.route_server.proofs.QueryLaws.{exchange_of, not_last, rule_of, served_at, split_of, target_at, unserved}
use Rattle.http_session.specs.SoFar.{session_closed, session_cut, session_fault, session_refused, so_far_grows, so_far_reply, so_far_start}
use Rattle.route_server.proofs.serving.serve_requests.Goals as goal

pub requests-init : goal.requests-init
requests-init g c =
    let says = λ (e : Entry g.row.V.Denot). g.A.Answering.says e.value e.number in
    let s0 = seat_state (g.S.Reading.seen c.args.seat.now) (g.S.Reading.learned c.args.seat.now) (g.S.Reading.reads c.args.seat.now) in
    let c0 = g.C.Conn.state c.args.conn.now in
    record {
      so_far = so_far_start (QueryRule says) s0 c0 c.new-unread.result c.new-unread.ensures;
      kin = λ x kin. kin;
      below = omega arith;
    }

-- the head is not served
pub returns-then-not-is_served-clause-session : goal.returns-then-not-is_served-clause-session
returns-then-not-is_served-clause-session g c =
    let says = λ (e : Entry g.row.V.Denot). g.A.Answering.says e.value e.number in
    let rule = QueryRule says in
    let s0 = seat_state (g.S.Reading.seen c.args.seat.now) (g.S.Reading.learned c.args.seat.now) (g.S.Reading.reads c.args.seat.now) in
    let s1 = seat_state (g.S.Reading.seen c.requests.seat) (g.S.Reading.learned c.requests.seat) (g.S.Reading.reads c.requests.seat) in
    let c0 = g.C.Conn.state c.args.conn.now in
    let c1 = g.C.Conn.state c.requests.conn in
    let c2 = g.C.Conn.state c.next_head.new.conn in
    let h = c.in-Whole.ensures.comes.0.0 in
    let is = c.in-Whole.ensures.comes.0.1 in
    let so_far = so_far_grows rule s0 s1 c0 c1 c2 c.requests.unread c.next_head.new.unread c.requests.replied c.requests.invariant.so_far c.in-Whole.ensures.grows c.in-Whole.ensures.comes.1 in
    let c3 = g.C.Conn.state c.refuse.new.conn in
    let not_served = served_at c.as_slice.result.now c.next_head.new.unread c.in-Whole.head c.in-Whole.size c.is_served.result false h c.as_slice.ensures is c.is_served.ensures c.if-not-is_served.true in
    session_refused rule IsUnserved IsPartOfHead s0 s1 c0 c2 c3 c.next_head.new.unread c.requests.replied c.refuse.result so_far
    (unserved c.next_head.new.unread c.in-Whole.head c.in-Whole.size h is not_served) c.refuse.ensures

-- the output failed in a reply
pub returns-in-Err-clause-session : goal.returns-in-Err-clause-session
returns-in-Err-clause-session g c =
    let says = λ (e : Entry g.row.V.Denot). g.A.Answering.says e.value e.number in
    let rule = QueryRule says in
    let s0 = seat_state (g.S.Reading.seen c.args.seat.now) (g.S.Reading.learned c.args.seat.now) (g.S.Reading.reads c.args.seat.now) in
    let s1 = seat_state (g.S.Reading.seen c.requests.seat) (g.S.Reading.learned c.requests.seat) (g.S.Reading.reads c.requests.seat) in
    let c0 = g.C.Conn.state c.args.conn.now in
    let c1 = g.C.Conn.state c.requests.conn in
    let c2 = g.C.Conn.state c.next_head.new.conn in
    let h = c.in-Whole.ensures.comes.0.0 in
    let is = c.in-Whole.ensures.comes.0.1 in
    let so_far = so_far_grows rule s0 s1 c0 c1 c2 c.requests.unread c.next_head.new.unread c.requests.replied c.requests.invariant.so_far c.in-Whole.ensures.grows c.in-Whole.ensures.comes.1 in
    let s2 = seat_state (g.S.Reading.seen c.put_reply.new.seat) (g.S.Reading.learned c.put_reply.new.seat) (g.S.Reading.reads c.put_reply.new.seat) in
    let c3 = g.C.Conn.state c.put_reply.new.conn in
    let served = served_at c.as_slice.result.now c.next_head.new.unread c.in-Whole.head c.in-Whole.size c.is_served.result true h c.as_slice.ensures is c.is_served.ensures c.if-not-is_served.false in
    let close = c.closes_at-close.result in
    let target_is = target_at c.as_slice-in-Whole.result.now c.next_head.new.unread c.of-target.result.now c.in-Whole.head c.as_slice-in-Whole.ensures c.of-target.ensures in
    let puts = c.in-Err.ensures.puts in
    let x = exchange_of h close puts.0 s2 in
    let follows = rule_of says c.requests.replied s1 s2 c.next_head.new.unread c.in-Whole.head c.in-Whole.size h c.of-target.result.now close puts.0 is served c.closes_at-close.ensures target_is puts.1 in
    session_cut rule IsUnserved IsPartOfHead s0 s1 c0 c2 c3 c.next_head.new.unread (drop c.in-Whole.size c.next_head.new.unread) c.requests.replied x so_far
    (split_of c.next_head.new.unread (drop c.in-Whole.size c.next_head.new.unread) c.in-Whole.head c.in-Whole.size h is refl) follows puts.2

-- the reply closes the connection
pub returns-then-close-clause-session : goal.returns-then-close-clause-session
returns-then-close-clause-session g c =
    let says = λ (e : Entry g.row.V.Denot). g.A.Answering.says e.value e.number in
    let rule = QueryRule says in
    let s0 = seat_state (g.S.Reading.seen c.args.seat.now) (g.S.Reading.learned c.args.seat.now) (g.S.Reading.reads c.args.seat.now) in
    let s1 = seat_state (g.S.Reading.seen c.requests.seat) (g.S.Reading.learned c.requests.seat) (g.S.Reading.reads c.requests.seat) in
    let c0 = g.C.Conn.state c.args.conn.now in
    let c1 = g.C.Conn.state c.requests.conn in
    let c2 = g.C.Conn.state c.next_head.new.conn in
    let h = c.in-Whole.ensures.comes.0.0 in
    let is = c.in-Whole.ensures.comes.0.1 in
    let so_far = so_far_grows rule s0 s1 c0 c1 c2 c.requests.unread c.next_head.new.unread c.requests.replied c.requests.invariant.so_far c.in-Whole.ensures.grows c.in-Whole.ensures.comes.1 in
    let s2 = seat_state (g.S.Reading.seen c.put_reply.new.seat) (g.S.Reading.learned c.put_reply.new.seat) (g.S.Reading.reads c.put_reply.new.seat) in
    let c3 = g.C.Conn.state c.put_reply.new.conn in
    let served = served_at c.as_slice.result.now c.next_head.new.unread c.in-Whole.head c.in-Whole.size c.is_served.result true h c.as_slice.ensures is c.is_served.ensures c.if-not-is_served.false in
    let close = c.closes_at-close.result in
    let target_is = target_at c.as_slice-in-Whole.result.now c.next_head.new.unread c.of-target.result.now c.in-Whole.head c.as_slice-in-Whole.ensures c.of-target.ensures in
    let puts = c.in-Ok.ensures.puts in
    let x = exchange_of h close puts.0 s2 in
    let follows = rule_of says c.requests.replied s1 s2 c.next_head.new.unread c.in-Whole.head c.in-Whole.size h c.of-target.result.now close puts.0 is served c.closes_at-close.ensures target_is puts.1 in
    session_closed rule IsUnserved IsPartOfHead s0 s1 c0 c2 c3 c.next_head.new.unread (drop c.in-Whole.size c.next_head.new.unread) c.requests.replied x so_far
    (split_of c.next_head.new.unread (drop c.in-Whole.size c.next_head.new.unread) c.in-Whole.head c.in-Whole.size h is refl) follows c.if-close.true puts.2

-- and the next request follows
pub requests-preserved : goal.requests-preserved
requests-preserved g c =
    let says = λ (e : Entry g.row.V.Denot). g.A.Answering.says e.value e.number in
    let rule = QueryRule says in
    let s0 = seat_state (g.S.Reading.seen c.args.seat.now) (g.S.Reading.learned c.args.seat.now) (g.S.Reading.reads c.args.seat.now) in
    let s1 = seat_state (g.S.Reading.seen c.requests.seat) (g.S.Reading.learned c.requests.seat) (g.S.Reading.reads c.requests.seat) in
    let c0 = g.C.Conn.state c.args.conn.now in
    let c1 = g.C.Conn.state c.requests.conn in
    let c2 = g.C.Conn.state c.next_head.new.conn in
    let h = c.in-Whole.ensures.comes.0.0 in
    let is = c.in-Whole.ensures.comes.0.1 in
    let so_far = so_far_grows rule s0 s1 c0 c1 c2 c.requests.unread c.next_head.new.unread c.requests.replied c.requests.invariant.so_far c.in-Whole.ensures.grows c.in-Whole.ensures.comes.1 in
    let s2 = seat_state (g.S.Reading.seen c.put_reply.new.seat) (g.S.Reading.learned c.put_reply.new.seat) (g.S.Reading.reads c.put_reply.new.seat) in
    let c3 = g.C.Conn.state c.put_reply.new.conn in
    let served = served_at c.as_slice.result.now c.next_head.new.unread c.in-Whole.head c.in-Whole.size c.is_served.result true h c.as_slice.ensures is c.is_served.ensures c.if-not-is_served.false in
    let close = c.closes_at-close.result in
    let target_is = target_at c.as_slice-in-Whole.result.now c.next_head.new.unread c.of-target.result.now c.in-Whole.head c.as_slice-in-Whole.ensures c.of-target.ensures in
    let puts = c.in-Ok.ensures.puts in
    let x = exchange_of h close puts.0 s2 in
    let follows = rule_of says c.requests.replied s1 s2 c.next_head.new.unread c.in-Whole.head c.in-Whole.size h c.of-target.result.now close puts.0 is served c.closes_at-close.ensures target_is puts.1 in
    record {
      so_far = so_far_reply rule s0 s1 c0 c2 c3 c.next_head.new.unread c.consume.new.self c.requests.replied x so_far
          (split_of c.next_head.new.unread c.consume.new.self c.in-Whole.head c.in-Whole.size h is c.consume.ensures) follows c.if-close.false puts.2;
      kin = λ x kin. c.requests.invariant.kin x (c.in-Ok.ensures.kin_stays x kin);
      below = not_last c.in-Whole.head.close close c.requests.replied c.closes_at-close.ensures c.if-close.false c.requests.invariant.below;
    }

-- no head
pub returns-in-NoHead-clause-session : goal.returns-in-NoHead-clause-session
returns-in-NoHead-clause-session g c =
    let says = λ (e : Entry g.row.V.Denot). g.A.Answering.says e.value e.number in
    let rule = QueryRule says in
    let s0 = seat_state (g.S.Reading.seen c.args.seat.now) (g.S.Reading.learned c.args.seat.now) (g.S.Reading.reads c.args.seat.now) in
    let s1 = seat_state (g.S.Reading.seen c.requests.seat) (g.S.Reading.learned c.requests.seat) (g.S.Reading.reads c.requests.seat) in
    let c0 = g.C.Conn.state c.args.conn.now in
    let c1 = g.C.Conn.state c.requests.conn in
    let c2 = g.C.Conn.state c.next_head.new.conn in
    let so_far = so_far_grows rule s0 s1 c0 c1 c2 c.requests.unread c.next_head.new.unread c.requests.replied c.requests.invariant.so_far c.in-NoHead.ensures.grows c.in-NoHead.ensures.comes.1 in
    let c3 = g.C.Conn.state c.refuse-in-NoHead.new.conn in
    session_refused rule IsUnserved IsPartOfHead s0 s1 c0 c2 c3 c.next_head.new.unread c.requests.replied c.refuse-in-NoHead.result so_far (inr c.in-NoHead.ensures.comes.0) c.refuse-in-NoHead.ensures

-- the input failed
pub returns-in-Fault-clause-session : goal.returns-in-Fault-clause-session
returns-in-Fault-clause-session g c =
    let says = λ (e : Entry g.row.V.Denot). g.A.Answering.says e.value e.number in
    let rule = QueryRule says in
    let s0 = seat_state (g.S.Reading.seen c.args.seat.now) (g.S.Reading.learned c.args.seat.now) (g.S.Reading.reads c.args.seat.now) in
    let s1 = seat_state (g.S.Reading.seen c.requests.seat) (g.S.Reading.learned c.requests.seat) (g.S.Reading.reads c.requests.seat) in
    let c0 = g.C.Conn.state c.args.conn.now in
    let c1 = g.C.Conn.state c.requests.conn in
    let c2 = g.C.Conn.state c.next_head.new.conn in
    session_fault rule IsUnserved IsPartOfHead s0 s1 c0 c1 c2 c.requests.unread c.next_head.new.unread c.requests.replied c.requests.invariant.so_far c.in-Fault.ensures.grows c.in-Fault.ensures.comes.0 c.in-Fault.ensures.comes.1
