-- The least key is at the top of the heap.
use Rattle.search_queue.proofs.Heaps.{IsLeastKey-top}
use Rattle.search_queue.proofs.key_heap.KeyHeap.least.Goals as goal

pub returns-in-Some-clause-some : goal.returns-in-Some-clause-some
returns-in-Some-clause-some g c =
    rw (← c.self.view_is) (IsLeastKey-top g.K.Ord.cmp c.in-Some.field-0.now _ c.in-Some.ensures.item.3.0 c.in-Some.ensures.lookup (c.in-Some.ensures.greatest c.self.invariant.0))
