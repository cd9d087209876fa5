use Rattle.std.proofs.Common.{◌≡◌, length, arith}
use Rattle.http_session.proofs.BodyLaws.{fills_held, fills_taken}
use Rattle.http_session.proofs.GrowLaws.{no_bytes}
use Rattle.http_session.proofs.bodies.fill.Goals as goal

pub returns-then-count-gt0 : goal.returns-then-count-gt0
returns-then-count-gt0 g c = record {
  fills = fills_held (g.C.Conn.state c.args.conn.now) c.args.unread.now c.len-count.result c.len-count.ensures.count c.if-count-gt0.true;
}

pub returns : goal.returns
returns g c =
    let none : length c.args.unread.now ≡ 0 = omega (arith, c.len-count.ensures.count, c.if-count-gt0.false) in
    record {
      fills = fills_taken (g.C.Conn.state c.args.conn.now) (g.C.Conn.state c.take_from.new.conn) c.args.unread.now c.take_from.new.self c.take_from.result (no_bytes c.args.unread.now none) c.take_from.ensures.takes;
    }
