use Rattle.std.proofs.Common.{◌∙◌, refl}
use Rattle.http_session.proofs.GrowLaws.{comes_end, comes_fault, comes_found, grows_more, grows_start, room_left}
use Rattle.http_session.proofs.coming.next_head.Goals as goal

pub takes-init : goal.takes-init
takes-init g c = record { grows = grows_start (g.C.Conn.state c.args.conn.now) c.args.unread.now; steady = refl }

-- a head was found, or that the bytes are none
pub returns-in-Some-clause-comes : goal.returns-in-Some-clause-comes
returns-in-Some-clause-comes g c =
    comes_found (g.C.Conn.state c.args.conn.now) (g.C.Conn.state c.takes.conn) c.takes.unread c.in-Some.next c.in-Some.ensures c.takes.invariant.steady

pub take_from-requires : goal.take_from-requires
take_from-requires g c = room_left c.takes.unread c.in-None.ensures

-- the input failed
pub returns-in-Err-clause-comes : goal.returns-in-Err-clause-comes
returns-in-Err-clause-comes g c =
    comes_fault (g.C.Conn.state c.args.conn.now) (g.C.Conn.state c.takes.conn) (g.C.Conn.state c.take_from.new.conn) c.takes.unread c.take_from.new.self c.in-None.ensures c.in-Err.ensures.takes c.takes.invariant.steady

-- the input ended
pub returns-then-count-eq0-clause-comes : goal.returns-then-count-eq0-clause-comes
returns-then-count-eq0-clause-comes g c =
    comes_end (g.C.Conn.state c.args.conn.now) (g.C.Conn.state c.takes.conn) (g.C.Conn.state c.take_from.new.conn) c.takes.unread c.take_from.new.self c.in-Ok.count c.ended_input.result
    c.in-None.ensures c.in-Ok.ensures.takes c.if-count-eq0.true c.takes.invariant.steady c.ended_input.ensures

pub takes-preserved : goal.takes-preserved
takes-preserved g c =
    let first = g.C.Conn.state c.args.conn.now in
    let mid = g.C.Conn.state c.takes.conn in
    let now = g.C.Conn.state c.take_from.new.conn in
    let takes = c.in-Ok.ensures.takes in
    record {
      grows = grows_more first mid now c.args.unread.now c.takes.unread c.take_from.new.self c.in-Ok.count c.takes.invariant.grows takes;
      steady = takes.steady ∙ c.takes.invariant.steady;
    }
