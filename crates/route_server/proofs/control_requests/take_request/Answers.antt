use Rattle.std.proofs.Common.{◌≡◌, inr, List, ℕ, ◌++◌, sym, subst}
use Rattle.http_head.specs.Heads.{IsHeadOf}
use Rattle.control_port.specs.Asking.{asked_of}
use Rattle.route_server.proofs.ControlLaws.{grows_read, read_part, read_whole}
use Rattle.route_server.proofs.control_requests.take_request.Goals as goal

-- the input ended inside the body
pub returns-in-Ends : goal.returns-in-Ends
returns-in-Ends g c =
    let first = g.C.Conn.state c.args.conn.now in
    let now = g.C.Conn.state c.take_body.new.conn in
    let unread = c.args.unread.now in
    let rest = c.consume.new.self in
    let h = c.requires.0 in
    let is = c.requires.1 in
    let asks : c.of-asked.result ≡ asked_of h = c.of-asked.ensures.asked c.args.size h (subst (λ (xs : List ℕ). IsHeadOf xs c.args.head.now c.args.size h) (sym c.as_slice.ensures) is) in
    let reads = c.in-Ends.ensures.came.0 in (
      record {
        held = unread ++ reads.reads.got;
        grows = grows_read first now unread rest _ reads.part reads.reads;
        is = inr (read_part first now unread rest c.args.head.now c.args.size h c.of-asked.result c.body_length.result is c.consume.ensures asks c.body_length.ensures reads);
      },
      c.in-Ends.ensures.came.1,
      c.in-Ends.ensures.came.2,
    )

-- it failed there
pub returns-in-Fails : goal.returns-in-Fails
returns-in-Fails g c =
    let first = g.C.Conn.state c.args.conn.now in
    let now = g.C.Conn.state c.take_body.new.conn in
    let unread = c.args.unread.now in
    let rest = c.consume.new.self in
    let h = c.requires.0 in
    let is = c.requires.1 in
    let asks : c.of-asked.result ≡ asked_of h = c.of-asked.ensures.asked c.args.size h (subst (λ (xs : List ℕ). IsHeadOf xs c.args.head.now c.args.size h) (sym c.as_slice.ensures) is) in
    let reads = c.in-Fails.ensures.came.0 in (
      record {
        held = unread ++ reads.reads.got;
        grows = grows_read first now unread rest _ reads.part reads.reads;
        is = inr (inr (read_part first now unread rest c.args.head.now c.args.size h c.of-asked.result c.body_length.result is c.consume.ensures asks c.body_length.ensures reads));
      },
      c.in-Fails.ensures.came.1,
    )

-- all of it was read
pub returns-in-All : goal.returns-in-All
returns-in-All g c =
    let first = g.C.Conn.state c.args.conn.now in
    let now = g.C.Conn.state c.take_body.new.conn in
    let h = c.requires.0 in
    let is = c.requires.1 in
    let asks : c.of-asked.result ≡ asked_of h = c.of-asked.ensures.asked c.args.size h (subst (λ (xs : List ℕ). IsHeadOf xs c.args.head.now c.args.size h) (sym c.as_slice.ensures) is) in
    read_whole first now c.args.unread.now c.consume.new.self c.take_body.new.unread c.args.replied c.args.head.now c.args.size h c.of-asked.result c.closes_at.result c.closes_by-close.result c.body_length.result c.in-All.kept
    is c.consume.ensures asks c.of-asked.ensures.speeds c.closes_at.ensures c.closes_by-close.ensures c.body_length.ensures c.in-All.ensures.came
