use Rattle.road_io.proofs.ConnLaws.{keeps_sink_of, takes_of}
use Rattle.road_io.proofs.connections.take_into.Goals as goal

pub returns : goal.returns
returns g c =
    let old = c.args.conn.now in
    let new = c.take.new.self in
    let before = g.C.Conn.state old in
    let after = g.C.Conn.state new in
    takes_of before after (g.C.Source.view old) (g.C.Source.view new) c.take.new.into c.take.result (g.met.C.Conn.is_source old) (g.met.C.Conn.is_source new)
    (keeps_sink_of before after (g.C.Source.beside old) (g.C.Source.beside new) (g.met.C.Conn.take_keeps old) (g.met.C.Conn.take_keeps new) c.take.ensures.beside)
    c.take.ensures.bound c.take.ensures.bytes c.take.ensures.count c.take.ensures.cause
