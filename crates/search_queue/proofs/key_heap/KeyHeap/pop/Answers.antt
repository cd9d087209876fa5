-- The heap gives up its greatest entry, which has the least key.
use Rattle.std.proofs.Common.{ℕ, ◌<◌, ◌^◌, arith}
use Rattle.std.specs.declared.cmp.Reverse.{Reverse}
use Rattle.search_queue.proofs.Heaps.{GivesLeast-popped, each-popped}
use Rattle.search_queue.proofs.key_heap.KeyHeap.pop.Goals as goal

pub overflow_cast-result : goal.overflow_cast-result
overflow_cast-result g c =
    let short : c.in_ok-key.vertex < 2 ^ 32 = (each-popped (λ (e : Reverse g.row.K.Denot × ℕ). e.1 < 2 ^ 32) _ _ _ c.in_ok-key.ensures.permutation c.self.invariant.1).0 in
    omega (arith, short)

pub invariant_of-self-2 : goal.invariant_of-self-2
invariant_of-self-2 g c = ((c.in_ok-key.ensures.heap_order c.self.invariant.0).0, (each-popped (λ (e : Reverse g.row.K.Denot × ℕ). e.1 < 2 ^ 32) _ _ _ c.in_ok-key.ensures.permutation c.self.invariant.1).1)

pub returns-clause-some : goal.returns-clause-some
returns-clause-some g c =
    rw (← c.self.view_is) (GivesLeast-popped g.K.Ord.cmp _ _ _ c.in_ok-key.ensures.permutation (c.in_ok-key.ensures.heap_order c.self.invariant.0).1)
