-- The search goes to work on the node of what was taken, and the tree grows by it and by what comes behind it.
use Rattle.std.proofs.Common.{refl, ◌∙◌}
use Rattle.step_search.proofs.Settled.{node_at_work, node_grows}
use Rattle.step_search.proofs.dijkstra.Search.put_node.Goals as goal

pub expand-requires-clause-at_work : goal.expand-requires-clause-at_work
expand-requires-clause-at_work g c =
    rw c.in_ok-to.ensures (node_at_work g.met.C.Cost.laws (g.T.Steps.space c.args.steps.now) c.args.self.now c.args.v c.args.label c.requires.taken _
    (rw c.in_ok-to.ensures at c.in_ok-push.ensures.items) refl c.len-at.result refl (c.len-at.ensures ∙ c.args.self.now.tree.ok.0))

pub expand-requires-clause-near : goal.expand-requires-clause-near
expand-requires-clause-near g c = c.requires.taken.units

pub returns-clause-grows : goal.returns-clause-grows
returns-clause-grows g c =
    node_grows g.met.C.Cost.laws (g.T.Steps.space c.args.steps.now) c.args.self.now c.args.v c.args.label c.requires.taken _
    (rw c.in_ok-to.ensures at c.in_ok-push.ensures.items) refl c.expand.new.self c.in_ok-expand.ensures.grows c.in_ok-expand.ensures.expanded
