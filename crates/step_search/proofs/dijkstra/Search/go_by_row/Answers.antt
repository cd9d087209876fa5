-- The head leads on, or is offered a label.
use Rattle.std.proofs.Common.{[], sym, ◌∙◌}
use Rattle.std.proofs.lemmas.Option.{none-some}
use Rattle.search_labels.specs.Labelled.{label_of, LabelWithin}
use Rattle.step_search.proofs.Offered.{OnlyGrows-falls, OnlyGrows-refl, each_hop, of_some}
use Rattle.step_search.specs.Spaces.{HasHop}
use Rattle.step_search.proofs.dijkstra.Search.go_by_row.Goals as goal

pub leads_on-requires-clause-vertex : goal.leads_on-requires-clause-vertex
leads_on-requires-clause-vertex g c =
    let S = g.T.Steps.space c.args.steps.now in
    c.requires.at_work.space.heads c.args.node.vertex c.in-Some.on.head c.in-Some.on.cost (of_some c.args.hop c.in-Some.on (λ h. HasHop S c.args.node.vertex h.head h.cost) c.in-Some.is c.requires.hop)

pub leads_on-requires-clause-row : goal.leads_on-requires-clause-row
leads_on-requires-clause-row g c = (c.args.node.vertex, c.requires.at_work.vertex, sym c.requires.row)

pub lead_on-requires-clause-hop : goal.lead_on-requires-clause-hop
lead_on-requires-clause-hop g c =
    let S = g.T.Steps.space c.args.steps.now in
    of_some c.args.hop c.in-Some.on (λ h. HasHop S c.args.node.vertex h.head h.cost) c.in-Some.is c.requires.hop

pub returns-in-Some-leads_on-clause-found : goal.returns-in-Some-leads_on-clause-found
returns-in-Some-leads_on-clause-found g c w s h =
    each_hop (λ v x. LabelWithin g.C.Cost.ops (label_of c.lead_on.new.self.labels) v (g.C.Cost.ops.plus c.args.node.cost x)) c.in-Some.on c.in_ok-lead_on-in-Some.ensures.found w s (sym c.in-Some.is ∙ h)

pub returns-in_ok-relax-in-Some-clause-found : goal.returns-in_ok-relax-in-Some-clause-found
returns-in_ok-relax-in-Some-clause-found g c w s h = c.in_ok-relax-in-Some.ensures.found w s (sym c.in-Some.is ∙ h)

pub returns-in_ok-relax-in-Some-clause-grows : goal.returns-in_ok-relax-in-Some-clause-grows
returns-in_ok-relax-in-Some-clause-grows g c = OnlyGrows-falls g.met.C.Cost.laws (g.T.Steps.space c.args.steps.now) [] c.args.self.now c.relax.new.self c.in_ok-relax-in-Some.ensures.falls

pub returns-in-None-clause-grows : goal.returns-in-None-clause-grows
returns-in-None-clause-grows g c = OnlyGrows-refl g.met.C.Cost.laws (g.T.Steps.space c.args.steps.now) [] c.args.self.now

pub returns-in-None-clause-found : goal.returns-in-None-clause-found
returns-in-None-clause-found g c w s h = absurd (none-some _ (sym c.in-None.is ∙ h))
