-- Where no path leads to its vertex, no walk leads to the target.
use Rattle.column_query.proofs.Costing.{none_between}
use Rattle.column_query.proofs.costs.cost_to.Goals as goal

pub returns-in-None-clause-cost : goal.returns-in-None-clause-cost
returns-in-None-clause-cost g c = none_between g.met.C.Cost.laws _ _ _ _ _ c.requires.ready c.args.point.now.target c.requires.unit (rw c.in-None.is at c.in_ok-path_cost.ensures.cost)
