-- The heap has the new entry and what it had; where there was no memory, only what it had.
use Rattle.std.proofs.Common.{◌≡◌, ◌<◌, ◌^◌, heap_items}
use Rattle.std.specs.declared.cmp.Reverse.{Reverse}
use Rattle.search_queue.specs.declared.rank_heap.Ranked.{Ranked}
use Rattle.search_queue.proofs.Heaps.{each-pushed, near_pushed, pushed_rank}
use Rattle.search_queue.proofs.rank_heap.RankHeap.push.Goals as goal

pub invariant_of-self : goal.invariant_of-self
invariant_of-self c =
    let same : heap_items c.push.new.self ≡ heap_items c.self.inside.heap = c.in_err-push.ensures.unchanged.0 in
    rw same c.self.invariant

pub invariant_of-self-2 : goal.invariant_of-self-2
invariant_of-self-2 c = (
  c.in_ok-push.ensures.heap_order c.self.invariant.0,
  each-pushed (λ (e : Reverse Ranked). e.0.from_last < 2 ^ 32) _ _ _ c.in_ok-push.ensures.permutation (near_pushed c.args.rank c.args.vertex c.of-entry.result c.of-entry.ensures) c.self.invariant.1,
)

pub returns-clause-ok : goal.returns-clause-ok
returns-clause-ok c =
    rw (← c.self.view_is) (pushed_rank c.args.rank c.args.vertex _ _ _ c.ranges.vertex.fits c.of-entry.ensures c.in_ok-push.ensures.permutation)
