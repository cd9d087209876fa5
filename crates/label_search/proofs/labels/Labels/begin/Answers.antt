-- Where a path may begin, nothing is offered; elsewhere the search comes nowhere.
use Rattle.std.proofs.Common.{◌∙◌, subst}
use Rattle.label_search.specs.Labelled.{Offers}
use Rattle.label_search.proofs.Labelling.{Front-none, Front-begun}
use Rattle.label_search.proofs.labels.Labels.begin.Goals as goal

pub returns-then-not-may_begin : goal.returns-then-not-may_begin
returns-then-not-may_begin g c =
    Front-none g.C.Cost.ops (g.T.Steps.space c.args.ground.now.steps.now) c.args.start c.args.self.now.list c.args.self.now.frontier c.requires.size c.requires.none c.if-not-may_begin.ensures.no

pub returns : goal.returns
returns g c =
    let S = g.T.Steps.space c.args.ground.now.steps.now in
    Front-begun g.C.Cost.ops S c.args.start c.args.self.now.list c.offer.new.self.list c.args.self.now.frontier c.offer.new.self.frontier c.requires.size c.requires.none c.if-not-may_begin.ensures.yes
    (subst (λ x. Offers g.C.Cost.ops S c.args.self.now.list c.offer.new.self.list c.args.self.now.frontier c.offer.new.self.frontier c.args.start x) (c.ZERO.ensures ∙ g.met.C.Cost.zero_is) c.in_ok-offer.ensures)
