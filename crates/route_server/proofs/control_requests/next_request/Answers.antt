use Rattle.route_server.proofs.ControlLaws.{comes_behind, part_of_request}
use Rattle.route_server.proofs.control_requests.next_request.Goals as goal

pub returns-in-Whole : goal.returns-in-Whole
returns-in-Whole g c =
    comes_behind (g.C.Conn.state c.args.conn.now) (g.C.Conn.state c.next_head.new.conn) (g.C.Conn.state c.take_request.new.conn) c.args.unread.now c.next_head.new.unread c.take_request.new.unread c.args.replied c.take_request.result
    c.in-Whole.ensures.grows c.in-Whole.ensures.comes.1 c.take_request.ensures

-- the input failed in front of a whole head
pub returns-in-Fault : goal.returns-in-Fault
returns-in-Fault g c = (
  record { held = c.next_head.new.unread; grows = c.in-Fault.ensures.grows; is = part_of_request c.next_head.new.unread c.in-Fault.ensures.comes.0 },
  c.in-Fault.ensures.comes.1,
)
