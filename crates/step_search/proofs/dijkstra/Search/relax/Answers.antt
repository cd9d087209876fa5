-- What a hop out of the node at work is offered, and what it finds.
use Rattle.std.proofs.Common.{◌≡◌, ℕ, Option, Some, IfSome, sym, ◌∙◌, subst}
use Rattle.std.proofs.lemmas.Option.{none-some}
use Rattle.search_labels.specs.Labelled.{label_of, LabelWithin}
use Rattle.step_search.specs.Spaces.{Space, HasHop}
use Rattle.step_search.specs.declared.hops.Hop.{Hop}
use Rattle.step_search.proofs.Offered.{hop_fits, settled_within_hop, hop_at_work, hop_only_falls, hop_found, OnlyFalls-refl, each_hop}
use Rattle.step_search.proofs.dijkstra.Search.relax.Goals as goal

-- the hop that was handed in is one of the space
open_hop : {C : Type 0} (S : Space C) (u : ℕ) (o : Option (Hop C)) (h : Hop C) → o ≡ Some h → IfSome o (λ x. HasHop S u x.head x.cost) → HasHop S u h.head h.cost
open_hop S u o h e p = subst (λ (x : Option (Hop _)). IfSome x (λ y. HasHop S u y.head y.cost)) e p

pub offer-requires-clause-fits : goal.offer-requires-clause-fits
offer-requires-clause-fits g c =
    let S = g.T.Steps.space c.args.steps.now in
    let hop = open_hop S c.args.node.vertex c.args.hop c.in-Some.hop c.in-Some.is c.requires.hop in
    hop_fits g.met.C.Cost.laws S c.args.self.now c.args.at c.args.node c.requires.at_work c.in-Some.hop.head c.in-Some.hop.cost hop

pub offer-requires-clause-fixed : goal.offer-requires-clause-fixed
offer-requires-clause-fixed g c =
    let S = g.T.Steps.space c.args.steps.now in
    let hop = open_hop S c.args.node.vertex c.args.hop c.in-Some.hop c.in-Some.is c.requires.hop in
    settled_within_hop g.met.C.Cost.laws S c.args.self.now c.args.at c.args.node c.requires.at_work c.in-Some.hop.head c.in-Some.hop.cost hop

pub returns-in_ok-offer-in-Some-clause-at_work : goal.returns-in_ok-offer-in-Some-clause-at_work
returns-in_ok-offer-in-Some-clause-at_work g c =
    let S = g.T.Steps.space c.args.steps.now in
    let hop = open_hop S c.args.node.vertex c.args.hop c.in-Some.hop c.in-Some.is c.requires.hop in
    hop_at_work g.met.C.Cost.laws S c.args.self.now c.args.at c.args.node c.requires.at_work c.in-Some.hop.head c.in-Some.hop.cost hop
    c.offer.new.self c.in_ok-offer-in-Some.ensures.offers c.in_ok-offer-in-Some.ensures.settled c.in_ok-offer-in-Some.ensures.tree

pub returns-in_ok-offer-in-Some-clause-falls : goal.returns-in_ok-offer-in-Some-clause-falls
returns-in_ok-offer-in-Some-clause-falls g c =
    let S = g.T.Steps.space c.args.steps.now in
    let hop = open_hop S c.args.node.vertex c.args.hop c.in-Some.hop c.in-Some.is c.requires.hop in
    hop_only_falls g.met.C.Cost.laws S c.args.self.now c.args.at c.args.node c.requires.at_work c.in-Some.hop.head c.in-Some.hop.cost hop
    c.offer.new.self c.in_ok-offer-in-Some.ensures.offers c.in_ok-offer-in-Some.ensures.settled c.in_ok-offer-in-Some.ensures.tree

pub returns-in_ok-offer-in-Some-clause-found : goal.returns-in_ok-offer-in-Some-clause-found
returns-in_ok-offer-in-Some-clause-found g c w s h =
    let S = g.T.Steps.space c.args.steps.now in
    let hop = open_hop S c.args.node.vertex c.args.hop c.in-Some.hop c.in-Some.is c.requires.hop in
    each_hop (λ v x. LabelWithin g.C.Cost.ops (label_of c.offer.new.self.labels) v (g.C.Cost.ops.plus c.args.node.cost x)) c.in-Some.hop
    (hop_found g.met.C.Cost.laws S c.args.self.now c.args.at c.args.node c.requires.at_work c.in-Some.hop.head c.in-Some.hop.cost hop
    c.offer.new.self c.in_ok-offer-in-Some.ensures.offers c.in_ok-offer-in-Some.ensures.settled c.in_ok-offer-in-Some.ensures.tree) w s (sym c.in-Some.is ∙ h)

pub returns-in-None-clause-falls : goal.returns-in-None-clause-falls
returns-in-None-clause-falls g c = OnlyFalls-refl g.met.C.Cost.laws c.args.self.now

pub returns-in-None-clause-found : goal.returns-in-None-clause-found
returns-in-None-clause-found g c w s h = absurd (none-some _ (sym c.in-None.is ∙ h))
