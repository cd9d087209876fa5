-- The vertex that the queue gives up is settled, and its node is put.
use Rattle.std.proofs.Common.{◌∙◌}
use Rattle.step_search.proofs.Advanced.{settled_under_way, settled_fewer}
use Rattle.step_search.proofs.Taken.{skipped_under_way, taken_from_near, still_tree, still_expanded, still_starts, still_rows}
use Rattle.step_search.proofs.dijkstra.Search.settle_next.Goals as goal

pub put_node-requires-clause-taken : goal.put_node-requires-clause-taken
put_node-requires-clause-taken g c =
    taken_from_near g.met.C.Cost.laws (g.T.Steps.space c.args.steps.now) c.args.starts.now c.args.self.now c.requires.under_way c.nearest.new.self c.in-Some.ensures.labels c.in-Some.ensures.tree c.in-Some.v c.in-Some.label c.in-Some.ensures.some c.in-Some.ensures.settles

pub put_node-requires-clause-rows : goal.put_node-requires-clause-rows
put_node-requires-clause-rows g c =
    still_rows g.met.C.Cost.laws (g.T.Steps.space c.args.steps.now) c.args.starts.now c.args.self.now c.requires.under_way c.nearest.new.self c.in-Some.ensures.labels c.in-Some.ensures.tree c.in-Some.ensures.rows

pub returns-in_ok-put_node-in-Some-clause-fewer : goal.returns-in_ok-put_node-in-Some-clause-fewer
returns-in_ok-put_node-in-Some-clause-fewer g c =
    let taken = taken_from_near g.met.C.Cost.laws (g.T.Steps.space c.args.steps.now) c.args.starts.now c.args.self.now c.requires.under_way c.nearest.new.self c.in-Some.ensures.labels c.in-Some.ensures.tree c.in-Some.v c.in-Some.label c.in-Some.ensures.some c.in-Some.ensures.settles in
    settled_fewer g.met.C.Cost.laws (g.T.Steps.space c.args.steps.now) c.args.starts.now c.nearest.new.self c.put_node.new.self c.in_ok-put_node-in-Some.ensures.front c.in-Some.v c.in-Some.label c.requires.under_way.fit
    (still_tree g.met.C.Cost.laws (g.T.Steps.space c.args.steps.now) c.args.starts.now c.args.self.now c.requires.under_way c.nearest.new.self c.in-Some.ensures.labels c.in-Some.ensures.tree)
    (still_expanded g.met.C.Cost.laws (g.T.Steps.space c.args.steps.now) c.args.starts.now c.args.self.now c.requires.under_way c.nearest.new.self c.in-Some.ensures.labels c.in-Some.ensures.tree)
    (still_starts g.met.C.Cost.laws (g.T.Steps.space c.args.steps.now) c.args.starts.now c.args.self.now c.requires.under_way c.nearest.new.self c.in-Some.ensures.labels c.in-Some.ensures.tree)
    taken c.in_ok-put_node-in-Some.ensures.grows c.args.self.now c.in-Some.ensures.some.unsettled (c.in_ok-put_node-in-Some.ensures.grows.settled ∙ c.in-Some.ensures.settles)

pub returns-in_ok-put_node-in-Some-clause-settles : goal.returns-in_ok-put_node-in-Some-clause-settles
returns-in_ok-put_node-in-Some-clause-settles g c = c.in_ok-put_node-in-Some.ensures.grows.settled ∙ c.in-Some.ensures.settles

pub returns-in_ok-put_node-in-Some-clause-under_way : goal.returns-in_ok-put_node-in-Some-clause-under_way
returns-in_ok-put_node-in-Some-clause-under_way g c =
    let taken = taken_from_near g.met.C.Cost.laws (g.T.Steps.space c.args.steps.now) c.args.starts.now c.args.self.now c.requires.under_way c.nearest.new.self c.in-Some.ensures.labels c.in-Some.ensures.tree c.in-Some.v c.in-Some.label c.in-Some.ensures.some c.in-Some.ensures.settles in
    settled_under_way g.met.C.Cost.laws (g.T.Steps.space c.args.steps.now) c.args.starts.now c.nearest.new.self c.put_node.new.self c.in_ok-put_node-in-Some.ensures.front c.in-Some.v c.in-Some.label c.requires.under_way.fit
    (still_tree g.met.C.Cost.laws (g.T.Steps.space c.args.steps.now) c.args.starts.now c.args.self.now c.requires.under_way c.nearest.new.self c.in-Some.ensures.labels c.in-Some.ensures.tree)
    (still_expanded g.met.C.Cost.laws (g.T.Steps.space c.args.steps.now) c.args.starts.now c.args.self.now c.requires.under_way c.nearest.new.self c.in-Some.ensures.labels c.in-Some.ensures.tree)
    (still_starts g.met.C.Cost.laws (g.T.Steps.space c.args.steps.now) c.args.starts.now c.args.self.now c.requires.under_way c.nearest.new.self c.in-Some.ensures.labels c.in-Some.ensures.tree)
    taken c.in_ok-put_node-in-Some.ensures.grows c.in_ok-put_node-in-Some.ensures.rows

pub returns-in-None-clause-under_way : goal.returns-in-None-clause-under_way
returns-in-None-clause-under_way g c =
    skipped_under_way g.met.C.Cost.laws (g.T.Steps.space c.args.steps.now) c.args.starts.now c.args.self.now c.requires.under_way c.nearest.new.self c.in-None.ensures.labels c.in-None.ensures.tree c.in-None.ensures.none c.in-None.ensures.same c.in-None.ensures.rows
