-- An entry that is taken is held back, and the cheapest; where none is left, the labels are least.
use Rattle.label_search.proofs.Labelling.{Front-popped, least_popped, AreLeast-empty}
use Rattle.label_search.proofs.labels.Labels.go_on.Goals as goal

pub take-requires-clause-front : goal.take-requires-clause-front
take-requires-clause-front g c =
    Front-popped g.C.Cost.ops (g.T.Steps.space c.args.ground.now.steps.now) c.args.start c.loop.self.list c.loop.self.frontier c.pop.new.self c.in-Some.least.1 c.in-Some.least.0 c.loop.invariant.front c.in-Some.ensures.some

pub take-requires-clause-least : goal.take-requires-clause-least
take-requires-clause-least g c =
    least_popped g.C.Cost.ops (g.T.Steps.space c.args.ground.now.steps.now) c.args.start c.loop.self.list c.loop.self.frontier c.pop.new.self c.in-Some.least.1 c.in-Some.least.0 c.in-Some.ensures.some

pub returns-in-None : goal.returns-in-None
returns-in-None g c =
    AreLeast-empty g.met.C.Cost.laws (g.T.Steps.space c.args.ground.now.steps.now) c.requires.space c.args.start c.loop.self.list c.loop.self.frontier c.in-None.ensures.none c.loop.invariant.front

pub loop-init : goal.loop-init
loop-init g c = record { front = c.requires.front }

pub loop-preserved : goal.loop-preserved
loop-preserved g c = record { front = c.in_ok-take-in-Some.ensures }
