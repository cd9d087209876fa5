-- The inside of the cell can be gone over under numbers of one's own.
use Rattle.std.proofs.Common.{ℕ, List, sym, subst}
use Rattle.cell_customize.specs.Numbers.{AreBelow}
use Rattle.cell_customize.proofs.Searched.{IsSearched-inner, IsSpace-numbered, entries_below}
use Rattle.cell_customize.proofs.rows.all_rows.Goals as goal

pub fill-requires-clause-searched : goal.fill-requires-clause-searched
fill-requires-clause-searched g c =
    let o = c.args.over.now in
    IsSearched-inner g.C.Cost.ops o.frame.now o.weights.now o.cliques.now o.parts.now.cell c.requires.inner

pub fill-requires-clause-from : goal.fill-requires-clause-from
fill-requires-clause-from g c =
    let o = c.args.over.now in
    subst (λ (xs : List ℕ). AreBelow o.frame.now.graph.vertices xs) (sym c.requires.entries) (entries_below g.C.Cost.ops o.frame.now o.weights.now o.cliques.now o.parts.now.cell c.requires.inner)

pub fill-requires-2-clause-space : goal.fill-requires-2-clause-space
fill-requires-2-clause-space g c =
    let o = c.args.over.now in
    IsSpace-numbered g.C.Cost.ops o.frame.now o.weights.now o.cliques.now o.parts.now.cell c.requires.inner c.fill.new.self c.in_ok-fill.ensures.whole c.known.ensures
