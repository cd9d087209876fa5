-- What lies behind an open place.
use Rattle.std.proofs.Common.{sym, ◌∙◌, subst}
use Rattle.std.proofs.lemmas.Option.{same_Some}
use Rattle.cell_customize.specs.Leaping.{IsGoal, Placed}
use Rattle.cell_customize.proofs.Bundled.{Gathers-as}
use Rattle.cell_customize.proofs.Locals.{on_ok}
use Rattle.cell_customize.proofs.leaps.Gathering.take_open.Goals as goal

pub take_place-requires-clause-vertex : goal.take_place-requires-clause-vertex
take_place-requires-clause-vertex g c = c.requires.vertex c.in-Some.cost c.in-Some.is

pub take_place-requires-clause-fits : goal.take_place-requires-clause-fits
take_place-requires-clause-fits g c = λ v t h. c.requires.fits c.in-Some.cost c.in-Some.is v t h

pub returns-in-Some : goal.returns-in-Some
returns-in-Some g c =
    on_ok c.take_place.result c.take_place.ensures (λ taken. Gathers-as g.met.C.Cost.laws c.args.from _ _ _ _
    (λ v d p. (c.in-Some.cost, c.in-Some.is, p))
    (λ v d p. subst (λ t. Placed g.C.Cost.ops (g.T.Steps.space c.args.steps.now) (IsGoal c.args.goals.now) c.args.x t v d) (same_Some p.0 c.in-Some.cost (sym p.1 ∙ c.in-Some.is)) p.2)
    taken)
