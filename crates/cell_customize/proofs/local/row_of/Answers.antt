-- The row is that of the heads of the vertex.
use Rattle.std.proofs.Common.{ℕ, List, sym, subst}
use Rattle.cell_customize.specs.Numbers.{AreBelow}
use Rattle.cell_customize.proofs.Locals.{IsRowAt-heads}
use Rattle.cell_customize.proofs.local.row_of.Goals as goal

pub returns-clause-grows : goal.returns-clause-grows
returns-clause-grows g c = c.in_ok-from.ensures.grows (g.T.Steps.space c.args.steps.now).vertices (subst (λ (xs : List ℕ). AreBelow (g.T.Steps.space c.args.steps.now).vertices xs) (sym c.heads-vertices.ensures) (c.requires.searched.heads c.args.u c.requires.vertex))

pub returns-clause-row : goal.returns-clause-row
returns-clause-row g c = IsRowAt-heads (g.T.Steps.space c.args.steps.now) c.args.u c.heads_at.new.numbers c.heads_at.new.heads.items c.in_ok-from.from c.in_ok-end.end c.heads-vertices.result.now c.heads-vertices.ensures c.in_ok-end.ensures c.in_ok-from.ensures.heads
