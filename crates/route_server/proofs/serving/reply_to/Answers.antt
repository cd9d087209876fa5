use Rattle.route_server.specs.Seats.{seat_state}
use Rattle.metric_publish.specs.declared.entry.Entry.{Entry}
use Rattle.route_server.proofs.ReplyLaws.{gives_err, gives_of, reads_held, reads_refused}
use Rattle.route_server.proofs.serving.reply_to.Goals as goal

pub returns-in_err-said-clause-gives : goal.returns-in_err-said-clause-gives
returns-in_err-said-clause-gives g c =
    let says = λ (e : Entry g.row.V.Denot). g.A.Answering.says e.value e.number in
    let before = seat_state (g.S.Reading.seen c.args.seat.now) (g.S.Reading.learned c.args.seat.now) (g.S.Reading.reads c.args.seat.now) in
    let after = seat_state (g.S.Reading.seen c.enter.new.self) (g.S.Reading.learned c.enter.new.self) (g.S.Reading.reads c.enter.new.self) in
    gives_err _ says before after c.args.target.now c.args.close c.from_residual-in_err-said.result c.from_residual-in_err-said.ensures.1
    (reads_held before after c.in_ok-held.held c.in_ok-held.ensures.gives c.in_ok-held.ensures.learned c.in_ok-held.ensures.runs)

pub returns-clause-gives : goal.returns-clause-gives
returns-clause-gives g c =
    let says = λ (e : Entry g.row.V.Denot). g.A.Answering.says e.value e.number in
    let before = seat_state (g.S.Reading.seen c.args.seat.now) (g.S.Reading.learned c.args.seat.now) (g.S.Reading.reads c.args.seat.now) in
    let after = seat_state (g.S.Reading.seen c.enter.new.self) (g.S.Reading.learned c.enter.new.self) (g.S.Reading.reads c.enter.new.self) in
    gives_of says before after c.in_ok-held.held c.args.target.now c.args.close c.in_ok-said.said.status c.in_ok-said.said.body c.as_bytes.result.now c.response.result
    c.in_ok-held.ensures.gives c.in_ok-held.ensures.learned c.in_ok-held.ensures.runs c.in_ok-said.ensures.says c.as_bytes.ensures c.response.ensures

pub returns-in_err-held-clause-gives : goal.returns-in_err-held-clause-gives
returns-in_err-held-clause-gives g c =
    let says = λ (e : Entry g.row.V.Denot). g.A.Answering.says e.value e.number in
    let before = seat_state (g.S.Reading.seen c.args.seat.now) (g.S.Reading.learned c.args.seat.now) (g.S.Reading.reads c.args.seat.now) in
    let after = seat_state (g.S.Reading.seen c.enter.new.self) (g.S.Reading.learned c.enter.new.self) (g.S.Reading.reads c.enter.new.self) in
    gives_err _ says before after c.args.target.now c.args.close c.from_residual.result c.from_residual.ensures.1
    (reads_refused before after c.in_err-held.field-0.0 c.in_err-held.ensures.gives c.in_err-held.ensures.learned c.in_err-held.ensures.runs)
