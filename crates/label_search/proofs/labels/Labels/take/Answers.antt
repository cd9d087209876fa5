-- A label that is taken at the cheapest entry is least, so it is small.
use Rattle.label_search.proofs.Labelling.{Front-passed, taken_small}
use Rattle.label_search.proofs.labels.Labels.take.Goals as goal

pub returns-then-not-stands : goal.returns-then-not-stands
returns-then-not-stands g c =
    Front-passed g.C.Cost.ops (g.T.Steps.space c.args.ground.now.steps.now) c.args.start c.args.self.now.list c.args.self.now.frontier c.args.entry.vertex c.args.entry.cost c.requires.front c.if-not-stands.ensures.no

pub expand-requires-clause-units : goal.expand-requires-clause-units
expand-requires-clause-units g c =
    taken_small g.met.C.Cost.laws (g.T.Steps.space c.args.ground.now.steps.now) c.requires.space c.args.start c.args.self.now.list c.args.self.now.frontier c.args.entry.vertex c.args.entry.cost c.requires.front c.requires.least c.if-not-stands.ensures.yes
