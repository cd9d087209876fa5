-- A key that is lowered is the rank of the cost; an entry that the tree doesn't take stands in the queue.
use Rattle.std.proofs.Common.{sym}
use Rattle.std.proofs.lemmas.Result.{on_ok_weaker}
use Rattle.label_search.specs.Waiting.{waiting}
use Rattle.label_search.proofs.Frontiers.{AreRankKeys-lowered, Waits-lowered, Waits-queued}
use Rattle.label_search.proofs.frontier.Frontier.push.Goals as goal

pub invariant_of-self : goal.invariant_of-self
invariant_of-self g c = AreRankKeys-lowered g.met.C.Cost.laws g.met.C.Cost.ranks c.self.inside.tree c.lower.new.self c.args.v c.in-Some.rank c.args.cost (sym c.in-Some.ensures) c.if-lower.ensures.yes c.self.invariant

pub returns-then-lower : goal.returns-then-lower
returns-then-lower g c = rw (← c.self.view_is) (Waits-lowered g.met.C.Cost.laws g.met.C.Cost.ranks c.args.cost c.args.v c.in-Some.rank c.self.inside.tree c.lower.new.self c.self.inside.queue (sym c.in-Some.ensures) c.if-lower.ensures.yes)

pub returns-else-lower : goal.returns-else-lower
returns-else-lower g c = rw (c.if-lower.ensures.no, ← c.self.view_is)
    (on_ok_weaker c.push.result (Waits-queued (waiting g.C.Cost.unranked 0 c.self.inside.tree) c.self.inside.queue c.push.new.self (c.args.cost, c.args.v)) c.push.ensures)

pub returns-in-None : goal.returns-in-None
returns-in-None g c = rw (← c.self.view_is)
    (on_ok_weaker c.push-in-None.result (Waits-queued (waiting g.C.Cost.unranked 0 c.self.inside.tree) c.self.inside.queue c.push-in-None.new.self (c.args.cost, c.args.v)) c.push-in-None.ensures)
