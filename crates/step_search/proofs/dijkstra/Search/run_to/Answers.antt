-- The search is done with a vertex that is settled, with each once the queue is empty, and with one whose label costs what is known.
use Rattle.step_search.proofs.Answered.{done_empty, done_settled, done_within, where_none}
use Rattle.step_search.proofs.dijkstra.Search.run_to.Goals as goal

pub returns-then-is_within-clause-done : goal.returns-then-is_within-clause-done
returns-then-is_within-clause-done g c =
    done_within g.met.C.Cost.laws (g.T.Steps.space c.args.steps.now) c.args.starts.now c.loop-known.self c.args.until c.args.known c.if-is_within.ensures.yes c.requires.known

pub returns-then-is_none-clause-done : goal.returns-then-is_none-clause-done
returns-then-is_none-clause-done g c =
    done_empty g.met.C.Cost.laws (g.T.Steps.space c.args.steps.now) c.args.starts.now c.settle_next.new.self c.in_ok-settle_next.ensures.under_way c.args.until (where_none c.in_ok-settle_next.field-0 c.if-is_none.ensures c.in_ok-settle_next.ensures.empty)

pub returns-clause-done : goal.returns-clause-done
returns-clause-done g c =
    done_settled g.met.C.Cost.laws (g.T.Steps.space c.args.steps.now) c.args.starts.now c.loop-known.self c.loop-known.invariant c.args.until c.loop-known-test.ensures
