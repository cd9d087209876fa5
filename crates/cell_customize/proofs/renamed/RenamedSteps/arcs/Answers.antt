-- The hops of a number stand side by side.
use Rattle.std.proofs.Common.{◌≡◌, Some, sym}
use Rattle.std.specs.List.{slice_get}
use Rattle.list_lemmas.proofs.Gets.{get_is}
use Rattle.cell_customize.proofs.Ranges.{has_span, arcs_rise, arcs_named, named_arcs}
use Rattle.cell_customize.proofs.renamed.RenamedSteps.arcs.Goals as goal

pub overflow_sub-span : goal.overflow_sub-span
overflow_sub-span g c =
    let l = c.args.self.now.local.now in
    let S = g.T.Steps.space c.args.self.now.steps.now in
    let span = c.index-span.result.now in
    let at : slice_get l.spans.items c.args.v ≡ Some span = get_is l.spans.items c.args.v span (has_span S l.numbers l.spans.items l.hops.items l.heads.items c.requires.ready.1 c.args.v c.requires.vertex) (sym c.index-span.ensures) in
    arcs_rise S l.numbers l.spans.items l.hops.items l.heads.items c.requires.ready.1 c.args.v span at

pub returns-clause-named : goal.returns-clause-named
returns-clause-named g c =
    let l = c.args.self.now.local.now in
    let S = g.T.Steps.space c.args.self.now.steps.now in
    let span = c.index-span.result.now in
    let at : slice_get l.spans.items c.args.v ≡ Some span = get_is l.spans.items c.args.v span (has_span S l.numbers l.spans.items l.hops.items l.heads.items c.requires.ready.1 c.args.v c.requires.vertex) (sym c.index-span.ensures) in
    rw c.range.ensures (arcs_named S l.numbers l.spans.items l.hops.items l.heads.items c.requires.ready.1 c.args.v span at)

pub returns-clause-all : goal.returns-clause-all
returns-clause-all g c =
    let l = c.args.self.now.local.now in
    let S = g.T.Steps.space c.args.self.now.steps.now in
    let span = c.index-span.result.now in
    let at : slice_get l.spans.items c.args.v ≡ Some span = get_is l.spans.items c.args.v span (has_span S l.numbers l.spans.items l.hops.items l.heads.items c.requires.ready.1 c.args.v c.requires.vertex) (sym c.index-span.ensures) in
    rw c.range.ensures (λ i w s h. named_arcs S l.numbers l.spans.items l.hops.items l.heads.items c.requires.ready.1 c.args.v span at i h.0)
