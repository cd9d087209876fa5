-- The least rank is at the top of the heap.
use Rattle.search_queue.proofs.Heaps.{IsLeastKey-rank}
use Rattle.search_queue.proofs.rank_heap.RankHeap.least.Goals as goal

pub returns-in-Some-clause-some : goal.returns-in-Some-clause-some
returns-in-Some-clause-some c =
    rw (← c.self.view_is) (IsLeastKey-rank c.in-Some.field-0.now _ c.in-Some.ensures.item.3.0 c.in-Some.ensures.lookup c.self.invariant.1 (c.in-Some.ensures.greatest c.self.invariant.0))
