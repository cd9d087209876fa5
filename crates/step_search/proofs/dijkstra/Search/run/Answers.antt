-- The search is done with a vertex that is settled, and with each once the queue is empty.
use Rattle.step_search.proofs.Answered.{done_settled, done_empty, where_none}
use Rattle.step_search.proofs.dijkstra.Search.run.Goals as goal

pub returns-then-is_none-clause-done : goal.returns-then-is_none-clause-done
returns-then-is_none-clause-done g c =
    done_empty g.met.C.Cost.laws (g.T.Steps.space c.args.steps.now) c.args.starts.now c.settle_next.new.self c.in_ok-settle_next.ensures.under_way c.args.until (where_none c.in_ok-settle_next.field-0 c.if-is_none.ensures c.in_ok-settle_next.ensures.empty)

pub returns-clause-done : goal.returns-clause-done
returns-clause-done g c =
    done_settled g.met.C.Cost.laws (g.T.Steps.space c.args.steps.now) c.args.starts.now c.loop-self.self c.loop-self.invariant c.args.until c.loop-self-test.ensures
