-- The head of a hop is offered what a path costs that goes on by it, unless the ranks tell that it has no dearer label.
use Rattle.std.proofs.Common.{◌^◌, inl, sym, ◌∙◌, subst}
use Rattle.std.proofs.lemmas.Option.{get_or_from_slice_get}
use Rattle.label_search.specs.Labelled.{Held, IsReached}
use Rattle.label_search.specs.Ranked.{IsOverRank}
use Rattle.label_search.specs.declared.arc_ranks.ArcRank.{ArcRank}
use Rattle.label_search.proofs.Labelling.{Front-offered, reached_on, hop_fits, hop_valid}
use Rattle.label_search.proofs.Ranking.{found_by_rank}
use Rattle.label_search.proofs.labels.Labels.relax.Goals as goal

pub plus-requires : goal.plus-requires
plus-requires g c = hop_fits g.met.C.Cost.laws (g.T.Steps.space c.args.ground.now.steps.now) c.requires.space c.args.start c.args.entry.vertex c.in-Some.hop.head c.args.entry.cost c.in-Some.hop.cost c.requires.units (inl (c.args.arc, c.in-Some.ensures.some))

pub returns-then-is_over-clause-found : goal.returns-then-is_over-clause-found
returns-then-is_over-clause-found g c = λ w s arc.
    let S = g.T.Steps.space c.args.ground.now.steps.now in
    let arcs = c.args.ground.now.arcs.now in
    let named = c.requires.arcs.named c.args.entry.vertex c.args.arc c.requires.named in
    let over = subst (λ (x : ArcRank). IsOverRank g.C.Cost.ranked c.args.self.now.list c.args.entry.rank x) (get_or_from_slice_get arcs c.args.arc named.0 _ named.1) c.if-is_over.ensures in
    let valid = g.met.C.Cost.laws.units_valid c.args.entry.cost (2 ^ 28) c.requires.units in
    found_by_rank S arcs c.args.self.now.list c.args.entry.vertex c.args.arc c.args.entry.cost c.args.entry.rank named.0
    c.requires.arcs named.1 c.requires.rank valid over w s
    (hop_valid g.met.C.Cost.laws S c.requires.space c.args.start c.args.entry.vertex w s (inl (c.args.arc, arc))) arc

pub returns-in_ok-offer-in-Some-clause-front : goal.returns-in_ok-offer-in-Some-clause-front
returns-in_ok-offer-in-Some-clause-front g c =
    let S = g.T.Steps.space c.args.ground.now.steps.now in
    Front-offered g.C.Cost.ops S c.args.start c.args.self.now.list (Held c.args.entry.vertex c.args.entry.cost) c.offer.new.self.list c.args.self.now.frontier c.offer.new.self.frontier c.in-Some.hop.head c.plus.result c.requires.front c.in_ok-offer-in-Some.ensures
    (subst (λ x. IsReached g.C.Cost.ops S c.args.start c.in-Some.hop.head x) (sym c.plus.ensures) (reached_on g.C.Cost.ops S c.args.start c.args.entry.vertex c.in-Some.hop.head c.args.entry.cost c.in-Some.hop.cost c.requires.reached (inl (c.args.arc, c.in-Some.ensures.some))))
