use Rattle.std.proofs.Common.{[], append-nil}
use Rattle.metric_publish.specs.declared.entry.Entry.{Entry}
use Rattle.route_server.specs.SeatLaws.{query_session}
use Rattle.route_server.specs.Seats.{seat_state}
use Rattle.route_server.proofs.serving.serve_with.Goals as goal

pub returns-clause-session : goal.returns-clause-session
returns-clause-session g c =
    let says = λ (e : Entry g.row.V.Denot). g.A.Answering.says e.value e.number in
    let first = seat_state (g.S.Reading.seen c.args.seat.now) (g.S.Reading.learned c.args.seat.now) (g.S.Reading.reads c.args.seat.now) in
    let last = seat_state (g.S.Reading.seen c.serve_requests.new.seat) (g.S.Reading.learned c.serve_requests.new.seat) (g.S.Reading.reads c.serve_requests.new.seat) in
    query_session says first last (g.C.Conn.state c.args.conn.now) (g.C.Conn.state c.serve_requests.new.conn) c.serve_requests.result c.serve_requests.ensures.session

pub returns-clause-transcript : goal.returns-clause-transcript
returns-clause-transcript g c = λ fresh.
    let says = λ (e : Entry g.row.V.Denot). g.A.Answering.says e.value e.number in
    let first = seat_state (g.S.Reading.seen c.args.seat.now) (g.S.Reading.learned c.args.seat.now) (g.S.Reading.reads c.args.seat.now) in
    let last = seat_state (g.S.Reading.seen c.serve_requests.new.seat) (g.S.Reading.learned c.serve_requests.new.seat) (g.S.Reading.reads c.serve_requests.new.seat) in
    record {
      first = first;
      last = last;
      before = g.C.Conn.state c.args.conn.now;
      entries = ([], append-nil (g.S.Reading.seen c.serve_requests.new.seat));
      fresh = fresh;
      session = query_session says first last (g.C.Conn.state c.args.conn.now) (g.C.Conn.state c.serve_requests.new.conn) c.serve_requests.result c.serve_requests.ensures.session;
    }
