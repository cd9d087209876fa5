-- The row of a number is a part of the heads.
use Rattle.std.proofs.Common.{◌≡◌, Some, sym}
use Rattle.std.specs.List.{slice_get}
use Rattle.list_lemmas.proofs.Gets.{get_is}
use Rattle.cell_customize.proofs.Ranges.{has_span, row_rises, row_within, heads_here}
use Rattle.cell_customize.proofs.renamed.RenamedSteps.heads.Goals as goal

pub part-requires-clause-rises : goal.part-requires-clause-rises
part-requires-clause-rises g c =
    let l = c.args.self.now.local.now in
    let S = g.T.Steps.space c.args.self.now.steps.now in
    let span = c.index-span.result.now in
    let at : slice_get l.spans.items c.args.v ≡ Some span = get_is l.spans.items c.args.v span (has_span S l.numbers l.spans.items l.hops.items l.heads.items c.requires.ready.1 c.args.v c.requires.vertex) (sym c.index-span.ensures) in
    row_rises S l.numbers l.spans.items l.hops.items l.heads.items c.requires.ready.1 c.args.v span at

pub part-requires-clause-within : goal.part-requires-clause-within
part-requires-clause-within g c =
    let l = c.args.self.now.local.now in
    let S = g.T.Steps.space c.args.self.now.steps.now in
    let span = c.index-span.result.now in
    let at : slice_get l.spans.items c.args.v ≡ Some span = get_is l.spans.items c.args.v span (has_span S l.numbers l.spans.items l.hops.items l.heads.items c.requires.ready.1 c.args.v c.requires.vertex) (sym c.index-span.ensures) in
    rw c.as_slice.ensures.value (row_within S l.numbers l.spans.items l.hops.items l.heads.items c.requires.ready.1 c.args.v span at)

pub returns : goal.returns
returns g c =
    let l = c.args.self.now.local.now in
    let S = g.T.Steps.space c.args.self.now.steps.now in
    let span = c.index-span.result.now in
    let at : slice_get l.spans.items c.args.v ≡ Some span = get_is l.spans.items c.args.v span (has_span S l.numbers l.spans.items l.hops.items l.heads.items c.requires.ready.1 c.args.v c.requires.vertex) (sym c.index-span.ensures) in
    rw (c.part.ensures, c.as_slice.ensures.value) (heads_here S l.numbers l.spans.items l.hops.items l.heads.items c.requires.ready.1 c.args.v span at)
