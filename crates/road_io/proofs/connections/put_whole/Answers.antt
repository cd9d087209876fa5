use Rattle.road_io.proofs.ConnLaws.{keeps_source_of, puts_of}
use Rattle.road_io.proofs.connections.put_whole.Goals as goal

pub returns : goal.returns
returns g c =
    let old = c.args.conn.now in
    let new = c.put_all.new.sink in
    let before = g.C.Conn.state old in
    let after = g.C.Conn.state new in
    puts_of before after (g.C.Sink.view old) (g.C.Sink.view new) c.args.bytes.now c.put_all.result (g.met.C.Conn.is_sink old) (g.met.C.Conn.is_sink new)
    (keeps_source_of before after (g.C.Sink.beside old) (g.C.Sink.beside new) (g.met.C.Conn.put_keeps old) (g.met.C.Conn.put_keeps new) c.put_all.ensures.beside)
    c.put_all.ensures.all c.put_all.ensures.part c.put_all.ensures.cause
