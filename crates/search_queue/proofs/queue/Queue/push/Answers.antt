-- The new entry goes into one of the heaps; where there was no memory, the heap has what it had.
use Rattle.std.proofs.Common.{sym}
use Rattle.std.proofs.lemmas.Result.{on_ok_weaker}
use Rattle.search_queue.proofs.Merged.{AreRanked-tried, Adds-ranked, Adds-right}
use Rattle.search_queue.proofs.queue.Queue.push.Goals as goal

pub invariant_of-self : goal.invariant_of-self
invariant_of-self g c =
    AreRanked-tried g.met.C.Cost.laws g.met.C.Cost.ranks c.push.result c.args.key c.in-Some.rank c.args.vertex c.self.inside.ranked c.push.new.self (sym c.in-Some.ensures) c.push.ensures.ok c.push.ensures.err c.self.invariant

pub returns-in-Some : goal.returns-in-Some
returns-in-Some g c =
    on_ok_weaker c.push.result (λ h. rw (← c.self.view_is) (Adds-ranked g.met.C.Cost.laws g.met.C.Cost.ranks c.args.key c.in-Some.rank c.args.vertex c.self.inside.ranked c.push.new.self c.self.inside.others (sym c.in-Some.ensures) h)) c.push.ensures.ok

pub returns-in-None : goal.returns-in-None
returns-in-None g c =
    on_ok_weaker c.push-in-None.result (λ h. rw (← c.self.view_is) (Adds-right (c.args.key, c.args.vertex) _ c.self.inside.others c.push-in-None.new.self h)) c.push-in-None.ensures.ok
