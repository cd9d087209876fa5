-- Where no path leads to the target's vertex, no walk leads to the target.
use Rattle.step_search.specs.TargetLaws.{NoneBetween-from_path}
use Rattle.plain_search.proofs.queries.find.Goals as goal

pub returns-in-None-clause-found : goal.returns-in-None-clause-found
returns-in-None-clause-found g c =
    NoneBetween-from_path g.met.C.Cost.laws c.args.along.now.graph.now c.args.along.now.weights.now c.args.starts.now c.args.target (rw c.in-None.is at c.in_ok-answer.ensures)
