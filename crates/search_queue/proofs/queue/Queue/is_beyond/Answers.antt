-- Nothing of the queue is less than the limit where nothing of either heap is, and something is where something of one is.
use Rattle.std.proofs.Common.{ℕ}
use Rattle.std.proofs.lemmas.Bool.{OnTrue_from, OnTrue_at, OnFalse_from, OnFalse_at}
use Rattle.std.specs.List.{Contains}
use Rattle.search_graph.specs.Costs.{NoDearer}
use Rattle.search_queue.specs.Queued.{HasCheaper}
use Rattle.search_queue.proofs.Merged.{both_beyond, cheaper_left, cheaper_right}
use Rattle.search_queue.proofs.queue.Queue.is_beyond.Goals as goal

pub returns-then-are_ranks_beyond-clause-yes : goal.returns-then-are_ranks_beyond-clause-yes
returns-then-are_ranks_beyond-clause-yes g c =
    OnTrue_from c.are_keys_beyond.result ((k : _) (v : ℕ) → Contains c.args.self.now (k, v) → NoDearer g.C.Cost.ops c.args.limit k) (λ h.
    rw (← c.self.view_is) (both_beyond g.met.C.Cost.laws g.met.C.Cost.ranks c.args.limit c.self.inside.ranked c.self.inside.others c.if-are_ranks_beyond.ensures.yes (OnTrue_at h c.are_keys_beyond.ensures.yes)))

pub returns-then-are_ranks_beyond-clause-no : goal.returns-then-are_ranks_beyond-clause-no
returns-then-are_ranks_beyond-clause-no g c =
    OnFalse_from c.are_keys_beyond.result (HasCheaper g.C.Cost.ops c.args.self.now c.args.limit) (λ h.
    rw (← c.self.view_is) (cheaper_right g.met.C.Cost.laws g.met.C.Cost.ranks c.args.limit c.self.inside.ranked c.self.inside.others (OnFalse_at h c.are_keys_beyond.ensures.no)))

pub returns-else-are_ranks_beyond-clause-no : goal.returns-else-are_ranks_beyond-clause-no
returns-else-are_ranks_beyond-clause-no g c =
    OnFalse_from c.are_ranks_beyond.result (HasCheaper g.C.Cost.ops c.args.self.now c.args.limit) (λ h.
    rw (← c.self.view_is) (cheaper_left g.met.C.Cost.laws g.met.C.Cost.ranks c.args.limit c.self.inside.ranked c.self.inside.others (OnFalse_at h c.are_ranks_beyond.ensures.no)))
