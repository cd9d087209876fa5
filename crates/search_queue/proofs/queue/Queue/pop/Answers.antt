-- The lesser of the two tops is the least of all.
use Rattle.std.proofs.lemmas.Option.{IfSome_then}
use Rattle.search_queue.proofs.Merged.{AreRanked-popped, TakesLeast-rank, TakesLeast-key}
use Rattle.search_queue.proofs.queue.Queue.pop.Goals as goal

pub returns-then-not-has_rank_first-clause-some : goal.returns-then-not-has_rank_first-clause-some
returns-then-not-has_rank_first-clause-some g c =
    IfSome_then c.pop.result c.pop.ensures.some (λ e h.
    rw (← c.self.view_is) (TakesLeast-key g.met.C.Cost.laws g.met.C.Cost.ranks g.C.Ord.cmp g.met.C.Cost.same_order e c.self.inside.ranked c.self.inside.others c.pop.new.self h c.if-not-has_rank_first.ensures.no))

pub invariant_of-self-2 : goal.invariant_of-self-2
invariant_of-self-2 g c = AreRanked-popped g.met.C.Cost.laws g.met.C.Cost.ranks _ c.self.inside.ranked c.pop-2.new.self c.in_ok-rank.ensures.some.parts c.self.invariant

pub returns-clause-some : goal.returns-clause-some
returns-clause-some g c =
    rw (← c.self.view_is, c.of_rank.ensures) (TakesLeast-rank g.met.C.Cost.laws g.met.C.Cost.ranks (c.in_ok-rank.rank, c.in_ok-rank.vertex) c.self.inside.ranked c.pop-2.new.self c.self.inside.others c.self.invariant c.in_ok-rank.ensures.some c.if-not-has_rank_first.ensures.yes)
