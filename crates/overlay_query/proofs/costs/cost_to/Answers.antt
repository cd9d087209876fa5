-- What the path of the search costs, with the target's cost in place of the vertex's.
use Rattle.overlay_query.proofs.Finding.{NoneBetween-query}
use Rattle.overlay_query.proofs.costs.cost_to.Goals as goal

pub returns-in-None-clause-cost : goal.returns-in-None-clause-cost
returns-in-None-clause-cost g c = NoneBetween-query g.met.C.Cost.laws _ _ _ _ _ c.requires.query c.args.target c.requires.target (rw c.in-None.is at c.cost.ensures)
