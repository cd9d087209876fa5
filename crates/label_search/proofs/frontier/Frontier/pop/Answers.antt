-- The lesser of two leasts is the least of all.
use Rattle.std.proofs.lemmas.Option.{IfSome_then}
use Rattle.label_search.specs.Waiting.{waiting}
use Rattle.label_search.proofs.Frontiers.{AreRankKeys-popped, TakesCheapest-queued, TakesCheapest-waiting, none_waits, queue_first, waiting-none}
use Rattle.label_search.proofs.frontier.Frontier.pop.Goals as goal

pub returns-then-not-is_beyond-clause-some : goal.returns-then-not-is_beyond-clause-some
returns-then-not-is_beyond-clause-some g c = rw (← c.self.view_is) (
    let ops = g.C.Cost.ops in
    let keys = c.self.inside.tree in
    let queue = c.self.inside.queue in
    let left = c.pop-then-not-is_beyond.new.self in
    let least = c.in-Some.ensures.some in
    let cheaper = rw c.of_rank.ensures at c.if-not-is_beyond.ensures.no in
    IfSome_then c.pop-then-not-is_beyond.result c.pop-then-not-is_beyond.ensures.some (λ e takes.
    TakesCheapest-queued ops (waiting g.C.Cost.unranked 0 keys) queue left e takes
    (queue_first g.met.C.Cost.laws g.met.C.Cost.ranks c.in-Some.rank least.1.0 keys queue left e c.self.invariant least.1.1 least.0 least.2 cheaper takes)))

pub invariant_of-self-in-Some : goal.invariant_of-self-in-Some
invariant_of-self-in-Some g c = AreRankKeys-popped g.met.C.Cost.laws g.met.C.Cost.ranks c.self.inside.tree c.pop-in-Some.new.self c.pop-in-Some.result c.pop-in-Some.ensures.some c.pop-in-Some.ensures.left c.self.invariant

pub returns-in-None-clause-some : goal.returns-in-None-clause-some
returns-in-None-clause-some g c = rw (← c.self.view_is) (
    IfSome_then c.pop.result c.pop.ensures.some (λ e takes.
    TakesCheapest-queued g.C.Cost.ops (waiting g.C.Cost.unranked 0 c.self.inside.tree) c.self.inside.queue c.pop.new.self e takes (none_waits g.C.Cost.ops g.C.Cost.unranked c.self.inside.tree e.0 c.in-None.ensures.none)))

pub returns-in-None-clause-none : goal.returns-in-None-clause-none
returns-in-None-clause-none g c = rw (← c.self.view_is, waiting-none g.C.Cost.unranked 0 c.self.inside.tree c.in-None.ensures.none) c.pop.ensures.none

pub returns-in_ok-rank-in-Some-clause-some : goal.returns-in_ok-rank-in-Some-clause-some
returns-in_ok-rank-in-Some-clause-some g c = rw (c.of_rank-in-Some.ensures, ← c.self.view_is) (
    let least = c.in-Some.ensures.some in
    let beyond = rw c.of_rank.ensures at c.if-not-is_beyond.ensures.yes in
    TakesCheapest-waiting g.met.C.Cost.laws g.met.C.Cost.ranks c.in-Some.rank least.1.0 (c.in_ok-rank-in-Some.rank, c.in_ok-rank-in-Some.v) c.self.inside.tree c.pop-in-Some.new.self c.self.inside.queue c.self.invariant least.1.1 least.0 beyond c.in_ok-rank-in-Some.ensures.some)
