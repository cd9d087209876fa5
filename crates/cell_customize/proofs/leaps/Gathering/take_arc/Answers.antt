-- The hop behind what is paid.
use Rattle.std.proofs.Common.{◌≡◌, ℕ, sym, ◌∙◌, ap, subst}
use Rattle.std.proofs.lemmas.Option.{same_Some}
use Rattle.step_search.specs.declared.hops.Hop.{Hop}
use Rattle.cell_customize.proofs.Bundled.{Gathers-as}
use Rattle.cell_customize.proofs.Locals.{on_ok}
use Rattle.cell_customize.proofs.leaps.Gathering.take_arc.Goals as goal

pub returns-in-Some : goal.returns-in-Some
returns-in-Some g c =
    let S = g.T.Steps.space c.args.steps.now in
    let ops = g.C.Cost.ops in
    let hop = c.in-Some.hop in
    on_ok c.offer.result c.offer.ensures (λ taken. Gathers-as g.met.C.Cost.laws c.args.from _ _ _ _
    (λ v c2 p. (hop.cost, subst (λ (y : ℕ). S.Arc c.args.x c.args.arc y hop.cost) (sym p.0) c.in-Some.ensures.some, p.1 ∙ c.plus-cost.ensures))
    (λ v c2 p.
    let same : hop ≡ record { head = v; cost = p.0 } = same_Some hop (record { head = v; cost = p.0 }) (c.in-Some.ensures.all v p.0 p.1) in
    (sym (ap (λ (h : Hop _). h.head) same), p.2 ∙ ap (ops.plus c.args.paid) (sym (ap (λ (h : Hop _). h.cost) same)) ∙ sym c.plus-cost.ensures))
    taken)
