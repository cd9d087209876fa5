use Rattle.route_server.proofs.control_serving.control_with.Goals as goal

pub returns-clause-transcript : goal.returns-clause-transcript
returns-clause-transcript g c = λ fresh. record {
  before = g.C.Conn.state c.args.conn.now;
  fresh = fresh;
  session = c.control_requests.ensures.session;
}
