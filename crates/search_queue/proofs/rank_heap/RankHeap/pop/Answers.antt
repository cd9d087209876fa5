-- The heap gives up its greatest entry, which has the least rank.
use Rattle.std.proofs.Common.{◌<◌, ◌^◌}
use Rattle.std.specs.declared.cmp.Reverse.{Reverse}
use Rattle.search_queue.specs.declared.rank_heap.Ranked.{Ranked}
use Rattle.search_queue.proofs.Heaps.{GivesLeast-rank, each-popped}
use Rattle.search_queue.proofs.rank_heap.RankHeap.pop.Goals as goal

pub vertex-requires : goal.vertex-requires
vertex-requires c = (each-popped (λ (e : Reverse Ranked). e.0.from_last < 2 ^ 32) _ _ _ c.in_ok-entry.ensures.permutation c.self.invariant.1).0

pub invariant_of-self-2 : goal.invariant_of-self-2
invariant_of-self-2 c = ((c.in_ok-entry.ensures.heap_order c.self.invariant.0).0, (each-popped (λ (e : Reverse Ranked). e.0.from_last < 2 ^ 32) _ _ _ c.in_ok-entry.ensures.permutation c.self.invariant.1).1)

pub returns-clause-some : goal.returns-clause-some
returns-clause-some c =
    rw (← c.self.view_is, c.vertex.ensures) (GivesLeast-rank _ _ _ c.in_ok-entry.ensures.permutation c.self.invariant.1 (c.in_ok-entry.ensures.heap_order c.self.invariant.0).1)
