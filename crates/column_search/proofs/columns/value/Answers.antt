-- A closed entry has no value, the target itself costs nothing, and elsewhere the search finds the value.
use Rattle.std.proofs.Common.{ℕ, sym, ◌∙◌, subst}
use Rattle.cell_frame.specs.Borders.{Holds}
use Rattle.cell_frame.specs.Inside.{IsLeastInside}
use Rattle.column_search.proofs.Counting.{AreTo-heads}
use Rattle.column_search.proofs.Inside.{entry_weighed, one_is, stays, value_found}
use Rattle.column_search.proofs.columns.value.Goals as goal

pub vertex-requires : goal.vertex-requires
vertex-requires g c =
    let o = c.args.backward.now.overlay.now in
    let s = c.args.backward.now.toward.now in
    entry_weighed g.met.C.Cost.laws o.frame.now o.weights.now o.cliques.now s.cell s.target c.requires.ready.toward c.args.entry c.requires.entry

pub returns-then-entry-backward-clause-value : goal.returns-then-entry-backward-clause-value
returns-then-entry-backward-clause-value g c =
    let o = c.args.backward.now.overlay.now in
    let s = c.args.backward.now.toward.now in
    let nothing = subst (λ z. IsLeastInside g.C.Cost.ops o.frame.now.graph o.weights.now (Holds o.frame.now.cells s.cell) c.args.entry c.args.entry z) (sym (c.ZERO.ensures ∙ g.met.C.Cost.zero_is))
    (stays g.met.C.Cost.laws o.frame.now o.weights.now o.cliques.now s.cell s.target c.requires.ready.toward c.args.entry c.requires.entry _ c.in-Some.ensures) in
    subst (λ (x : ℕ). IsLeastInside g.C.Cost.ops o.frame.now.graph o.weights.now (Holds o.frame.now.cells s.cell) c.args.entry x c.ZERO.result) c.if-entry-backward.true nothing

pub returns-clause-value : goal.returns-clause-value
returns-clause-value g c =
    let o = c.args.backward.now.overlay.now in
    let s = c.args.backward.now.toward.now in
    let h = c.requires.ready in
    value_found g.met.C.Cost.laws o.frame.now o.weights.now o.cliques.now s.cell s.target h.toward c.args.entry c.requires.entry o.heads.now (AreTo-heads o.frame.now.graph o.heads.now h.by_head) c.if-entry-backward.false
    c.args.starts.now (c.requires.starts ∙ one_is s.target g.met.C.Cost.zero_is) _ c.in-Some.ensures c.cost.result c.cost.ensures
