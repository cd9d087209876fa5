-- The target's label is the least cost; with no label there is no path.
use Rattle.std.proofs.Common.{sym}
use Rattle.step_search.proofs.Answered.{done_none, least_cost}
use Rattle.step_search.proofs.dijkstra.Search.cost.Goals as goal

pub returns-in-None : goal.returns-in-None
returns-in-None g c =
    done_none g.C.Cost.ops (g.T.Steps.space c.args.steps.now) c.args.starts.now c.args.self.now c.requires.under_way c.args.target c.requires.done (sym c.in-None.ensures)

pub returns-in-Some : goal.returns-in-Some
returns-in-Some g c =
    least_cost g.C.Cost.ops (g.T.Steps.space c.args.steps.now) c.args.starts.now c.args.self.now c.requires.under_way c.args.target c.requires.done c.in-Some.label (sym c.in-Some.ensures)
