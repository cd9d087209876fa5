-- An open entry costs nothing, and from a closed one no walk leads.
use Rattle.std.proofs.Common.{sym, ◌∙◌, subst}
use Rattle.cell_frame.specs.Borders.{Holds}
use Rattle.cell_frame.specs.Inside.{IsLeastInside}
use Rattle.cell_customize.specs.InnerLaws.{stays, closed_none, entry_weighed}
use Rattle.cell_customize.proofs.rows.nothing_paid.Goals as goal

pub vertex-requires : goal.vertex-requires
vertex-requires g c = entry_weighed g.met.C.Cost.laws c.args.over.now.frame.now c.args.over.now.weights.now c.args.over.now.cliques.now c.args.over.now.parts.now.cell c.requires.inner c.args.entry c.requires.entry

pub returns-in-None : goal.returns-in-None
returns-in-None g c = λ vs d h. closed_none _ _ _ _ _ _ _ _ c.in-None.ensures h

pub returns-in-Some : goal.returns-in-Some
returns-in-Some g c =
    subst (λ z. IsLeastInside g.C.Cost.ops c.args.over.now.frame.now.graph c.args.over.now.weights.now (Holds c.args.over.now.frame.now.cells c.args.over.now.parts.now.cell) c.args.entry c.args.entry z) (sym (c.ZERO.ensures ∙ g.met.C.Cost.zero_is))
    (stays g.met.C.Cost.laws c.args.over.now.frame.now c.args.over.now.weights.now c.args.over.now.cliques.now c.args.over.now.parts.now.cell c.requires.inner c.args.entry c.requires.entry _ c.in-Some.ensures)
