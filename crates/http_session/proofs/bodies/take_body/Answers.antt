use Rattle.std.proofs.Common.{◌≤◌, ◌∙◌, List, ℕ, length, take, ap, subst, arith}
use Rattle.road_io.specs.Faults.{Rose}
use Rattle.http_session.proofs.BodyLaws.{body_fault, body_more, body_short, body_start, body_whole}
use Rattle.http_session.proofs.bodies.take_body.Goals as goal

pub takes-init : goal.takes-init
takes-init g c = record {
  so_far = body_start (g.C.Conn.state c.args.conn.now) c.args.unread.now c.room-kept.result c.room-kept.ensures;
  within = omega arith;
}

pub returns-in-Err : goal.returns-in-Err
returns-in-Err g c =
    let first = g.C.Conn.state c.args.conn.now in
    let mid = g.C.Conn.state c.takes.conn in
    let now = g.C.Conn.state c.fill.new.conn in
    record { came = (body_fault first mid now c.args.unread.now c.takes.unread c.fill.new.unread c.takes.kept c.takes.done c.args.size c.takes.invariant.so_far c.takes-test.true c.in-Err.ensures.fills, subst (λ (n : ℕ). Rose n (g.C.Conn.state c.fill.new.conn).source.faults) c.takes.invariant.so_far.steady c.in-Err.ensures.fills.takes.rose) }

pub returns-then-count-eq0 : goal.returns-then-count-eq0
returns-then-count-eq0 g c =
    let first = g.C.Conn.state c.args.conn.now in
    let mid = g.C.Conn.state c.takes.conn in
    let now = g.C.Conn.state c.fill.new.conn in
    let fills = c.in-Ok.ensures.fills in
    record { came = (body_short first mid now c.args.unread.now c.takes.unread c.fill.new.unread c.takes.kept c.takes.done c.args.size c.in-Ok.count c.takes.invariant.so_far c.takes-test.true fills c.if-count-eq0.true, fills.at_end c.if-count-eq0.true, fills.steady ∙ c.takes.invariant.so_far.steady) }

pub takes-preserved : goal.takes-preserved
takes-preserved g c =
    let first = g.C.Conn.state c.args.conn.now in
    let mid = g.C.Conn.state c.takes.conn in
    let now = g.C.Conn.state c.fill.new.conn in
    let fills = c.in-Ok.ensures.fills in
    let step = c.min-step.result in
    let few : step ≤ length c.fill.new.unread = omega (arith, c.min-step.ensures, fills.size) in
    record {
      so_far = body_more first mid now c.args.unread.now c.takes.unread c.fill.new.unread c.consume.new.self (take step c.as_slice.result.now) c.takes.kept c.keep-kept.result c.takes.done step
          c.takes.invariant.so_far fills.grows fills.steady few (ap (λ (xs : List ℕ). take step xs) c.as_slice.ensures) c.keep-kept.ensures c.consume.ensures;
      within = omega (arith, c.min-step.ensures, c.takes-test.true);
    }

pub returns : goal.returns
returns g c =
    let first = g.C.Conn.state c.args.conn.now in
    let mid = g.C.Conn.state c.takes.conn in
    record { came = body_whole first mid c.args.unread.now c.takes.unread c.takes.kept c.takes.done c.args.size c.takes.invariant.so_far c.takes-test.false c.takes.invariant.within }
