use Rattle.route_server.specs.Seats.{seat_state}
use Rattle.metric_publish.specs.declared.entry.Entry.{Entry}
use Rattle.route_server.proofs.ReplyLaws.{puts_busy, puts_given}
use Rattle.route_server.proofs.serving.put_reply.Goals as goal

pub returns-in-Ok-clause-puts : goal.returns-in-Ok-clause-puts
returns-in-Ok-clause-puts g c =
    let says = λ (e : Entry g.row.V.Denot). g.A.Answering.says e.value e.number in
    let before = seat_state (g.S.Reading.seen c.args.seat.now) (g.S.Reading.learned c.args.seat.now) (g.S.Reading.reads c.args.seat.now) in
    let after = seat_state (g.S.Reading.seen c.reply_to.new.seat) (g.S.Reading.learned c.reply_to.new.seat) (g.S.Reading.reads c.reply_to.new.seat) in
    let first = g.C.Conn.state c.args.conn.now in
    let now = g.C.Conn.state c.put_whole.new.conn in
    puts_given says before after c.args.target.now c.args.close first now c.in-Ok.reply c.deref.result.now c.put_whole.result c.in-Ok.ensures.gives c.deref.ensures.value c.put_whole.ensures

pub returns-in-Err-clause-puts : goal.returns-in-Err-clause-puts
returns-in-Err-clause-puts g c =
    let says = λ (e : Entry g.row.V.Denot). g.A.Answering.says e.value e.number in
    let before = seat_state (g.S.Reading.seen c.args.seat.now) (g.S.Reading.learned c.args.seat.now) (g.S.Reading.reads c.args.seat.now) in
    let after = seat_state (g.S.Reading.seen c.reply_to.new.seat) (g.S.Reading.learned c.reply_to.new.seat) (g.S.Reading.reads c.reply_to.new.seat) in
    let first = g.C.Conn.state c.args.conn.now in
    let now = g.C.Conn.state c.put_whole-in-Err.new.conn in
    puts_busy says before after c.args.target.now c.args.close first now c.in-Err.field-0 c.busy_reply.result.now c.put_whole-in-Err.result c.in-Err.ensures.gives c.busy_reply.ensures c.put_whole-in-Err.ensures
