-- The heap has the new entry and what it had; where there was no memory, only what it had.
use Rattle.std.proofs.Common.{◌≡◌, ℕ, ◌<◌, ◌^◌, heap_items}
use Rattle.std.proofs.lemmas.List.Sorted.{IsPermutation-map}
use Rattle.std.specs.declared.cmp.Reverse.{Reverse}
use Rattle.search_queue.specs.Queued.{entry_of}
use Rattle.search_queue.proofs.Heaps.{each-pushed}
use Rattle.search_queue.proofs.key_heap.KeyHeap.push.Goals as goal

pub invariant_of-self : goal.invariant_of-self
invariant_of-self g c =
    let same : heap_items c.push.new.self ≡ heap_items c.self.inside.heap = c.in_err-push.ensures.unchanged.0 in
    rw same c.self.invariant

pub invariant_of-self-2 : goal.invariant_of-self-2
invariant_of-self-2 g c = (c.in_ok-push.ensures.heap_order c.self.invariant.0, each-pushed (λ (e : Reverse g.row.K.Denot × ℕ). e.1 < 2 ^ 32) _ _ _ c.in_ok-push.ensures.permutation c.ranges.vertex.fits c.self.invariant.1)

pub returns-clause-ok : goal.returns-clause-ok
returns-clause-ok g c = rw (← c.self.view_is) (IsPermutation-map entry_of _ _ c.in_ok-push.ensures.permutation)
