-- The start's node is new in the tree.
use Rattle.std.proofs.Common.{◌^◌, arith, refl, ◌∙◌}
use Rattle.step_search.proofs.Settled.{begin_at_work, begin_begins, begin_nowhere}
use Rattle.step_search.proofs.dijkstra.Search.begin_at.Goals as goal

pub returns-then-not-may_begin-clause-begins : goal.returns-then-not-may_begin-clause-begins
returns-then-not-may_begin-clause-begins g c = begin_nowhere g.met.C.Cost.laws (g.T.Steps.space c.args.steps.now) c.args.self.now c.args.start c.if-not-may_begin.ensures.no

pub expand-requires-clause-at_work : goal.expand-requires-clause-at_work
expand-requires-clause-at_work g c =
    rw c.none.ensures (begin_at_work g.met.C.Cost.laws (g.T.Steps.space c.args.steps.now) c.args.self.now c.args.start c.requires.space c.requires.vertex c.requires.units c.requires.front c.requires.unsettled _ c.len-at.result
    (rw c.none.ensures at c.in_ok-push.ensures.items) refl refl (c.len-at.ensures ∙ c.args.self.now.tree.ok.0))

pub expand-requires-clause-near : goal.expand-requires-clause-near
expand-requires-clause-near g c = g.met.C.Cost.laws.units_more c.args.start.cost 1 (2 ^ 30) c.requires.units (omega arith)

pub returns-clause-begins : goal.returns-clause-begins
returns-clause-begins g c =
    begin_begins g.met.C.Cost.laws (g.T.Steps.space c.args.steps.now) c.args.self.now c.args.start c.if-not-may_begin.ensures.yes c.requires.vertex c.requires.units _ c.expand.new.self (rw c.none.ensures at c.in_ok-push.ensures.items) refl c.in_ok-expand.ensures.grows c.in_ok-expand.ensures.expanded
