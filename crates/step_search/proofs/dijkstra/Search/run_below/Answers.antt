-- The search is done with a vertex that is settled, with each once the queue is empty, and with one whose label is within a limit that no key is below.
use Rattle.step_search.proofs.Answered.{beyond_if_not, done_if_within, done_settled, done_empty, where_none}
use Rattle.step_search.proofs.dijkstra.Search.run_below.Goals as goal

pub returns-then-is_beyond-clause-done : goal.returns-then-is_beyond-clause-done
returns-then-is_beyond-clause-done g c =
    done_if_within g.met.C.Cost.laws (g.T.Steps.space c.args.steps.now) c.args.starts.now c.loop-limit.self c.loop-limit.invariant c.args.until c.args.limit c.if-is_beyond.ensures.yes c.is_within.result c.is_within.ensures.yes c.is_within.ensures.no

pub returns-then-is_beyond-clause-beyond : goal.returns-then-is_beyond-clause-beyond
returns-then-is_beyond-clause-beyond g c =
    beyond_if_not g.met.C.Cost.laws (g.T.Steps.space c.args.steps.now) c.args.starts.now c.loop-limit.self c.loop-limit.invariant c.args.until c.args.limit c.if-is_beyond.ensures.yes c.is_within.result c.is_within.ensures.yes c.is_within.ensures.no

pub returns-then-is_none-clause-done : goal.returns-then-is_none-clause-done
returns-then-is_none-clause-done g c =
    done_empty g.met.C.Cost.laws (g.T.Steps.space c.args.steps.now) c.args.starts.now c.settle_next.new.self c.in_ok-settle_next.ensures.under_way c.args.until (where_none c.in_ok-settle_next.field-0 c.if-is_none.ensures c.in_ok-settle_next.ensures.empty)

pub returns-clause-done : goal.returns-clause-done
returns-clause-done g c =
    done_settled g.met.C.Cost.laws (g.T.Steps.space c.args.steps.now) c.args.starts.now c.loop-limit.self c.loop-limit.invariant c.args.until c.loop-limit-test.ensures
