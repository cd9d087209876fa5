-- The head's node is in the tree, and once its arcs are gone along it is expanded.
use Rattle.std.proofs.Common.{[], refl, ◌∙◌}
use Rattle.step_search.proofs.Led.{led_unsettled, led_at_work, led_back, led_found, led_grows}
use Rattle.step_search.proofs.Offered.{OnlyGrows-refl, hop_fits}
use Rattle.step_search.proofs.dijkstra.Search.lead_on.Goals as goal

pub plus-paid-requires : goal.plus-paid-requires
plus-paid-requires g c = hop_fits g.met.C.Cost.laws (g.T.Steps.space c.args.steps.now) c.args.self.now c.args.at c.args.node c.requires.at_work c.args.hop.head c.args.hop.cost c.requires.hop

pub returns-then-is_within-clause-grows : goal.returns-then-is_within-clause-grows
returns-then-is_within-clause-grows g c = OnlyGrows-refl g.met.C.Cost.laws (g.T.Steps.space c.args.steps.now) [] c.args.self.now

pub returns-then-is_within-clause-found : goal.returns-then-is_within-clause-found
returns-then-is_within-clause-found g c = rw (← c.plus-paid.ensures) c.if-is_within.ensures.yes

pub put-requires : goal.put-requires
put-requires g c = led_unsettled g.met.C.Cost.laws (g.T.Steps.space c.args.steps.now) c.args.self.now c.args.at c.args.node c.requires.at_work c.requires.near c.args.hop.head c.args.hop.cost c.requires.hop (rw c.plus-paid.ensures at c.if-is_within.ensures.no)

pub go_along-requires-clause-at_work : goal.go_along-requires-clause-at_work
go_along-requires-clause-at_work g c =
    rw (c.plus-paid.ensures, c.in_ok-to.ensures) (led_at_work g.met.C.Cost.laws (g.T.Steps.space c.args.steps.now) c.args.self.now c.args.at c.args.node c.requires.at_work c.requires.near c.args.hop.head c.args.hop.cost c.requires.hop (rw c.plus-paid.ensures at c.if-is_within.ensures.no)
    _ (rw (c.plus-paid.ensures, c.in_ok-to.ensures) at c.in_ok-push.ensures.items) (rw c.plus-paid.ensures at c.in_ok-put.ensures.label) c.in_ok-put.ensures.settled refl c.len-here.result (c.len-here.ensures ∙ c.args.self.now.tree.ok.0))

pub returns-clause-at_work : goal.returns-clause-at_work
returns-clause-at_work g c =
    led_back g.met.C.Cost.laws (g.T.Steps.space c.args.steps.now) c.args.self.now c.args.at c.args.node c.requires.at_work c.requires.near c.args.hop.head c.args.hop.cost c.requires.hop (rw c.plus-paid.ensures at c.if-is_within.ensures.no)
    _ (rw (c.plus-paid.ensures, c.in_ok-to.ensures) at c.in_ok-push.ensures.items) (rw c.plus-paid.ensures at c.in_ok-put.ensures.label) c.in_ok-put.ensures.settled refl
    c.go_along.new.self c.len-here.result (rw (c.plus-paid.ensures, c.in_ok-to.ensures) at c.in_ok-go_along.ensures.at_work) c.in_ok-go_along.ensures.falls

pub returns-clause-grows : goal.returns-clause-grows
returns-clause-grows g c =
    led_grows g.met.C.Cost.laws (g.T.Steps.space c.args.steps.now) c.args.self.now c.args.at c.args.node c.requires.at_work c.requires.near c.args.hop.head c.args.hop.cost c.requires.hop (rw c.plus-paid.ensures at c.if-is_within.ensures.no)
    _ (rw (c.plus-paid.ensures, c.in_ok-to.ensures) at c.in_ok-push.ensures.items) (rw c.plus-paid.ensures at c.in_ok-put.ensures.label) c.in_ok-put.ensures.settled refl
    c.go_along.new.self c.len-here.result (rw (c.plus-paid.ensures, c.in_ok-to.ensures) at c.in_ok-go_along.ensures.at_work) c.in_ok-go_along.ensures.falls c.requires.leads.no_costs
    (λ i w t h. rw c.plus-paid.ensures at c.in_ok-go_along.ensures.found i w t (c.requires.leads.all i w t h) h)

pub returns-clause-found : goal.returns-clause-found
returns-clause-found g c =
    led_found g.met.C.Cost.laws (g.T.Steps.space c.args.steps.now) c.args.self.now c.args.at c.args.node c.requires.at_work c.requires.near c.args.hop.head c.args.hop.cost c.requires.hop (rw c.plus-paid.ensures at c.if-is_within.ensures.no)
    _ (rw (c.plus-paid.ensures, c.in_ok-to.ensures) at c.in_ok-push.ensures.items) (rw c.plus-paid.ensures at c.in_ok-put.ensures.label) c.in_ok-put.ensures.settled refl
    c.go_along.new.self c.len-here.result (rw (c.plus-paid.ensures, c.in_ok-to.ensures) at c.in_ok-go_along.ensures.at_work) c.in_ok-go_along.ensures.falls
