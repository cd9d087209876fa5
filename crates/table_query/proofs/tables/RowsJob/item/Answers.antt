-- The starts of a number are one of all lists, and no other has that number.
use Rattle.std.proofs.Common.{◌∙◌, List, subst, sym}
use Rattle.std.specs.List.{Contains}
use Rattle.std.proofs.lemmas.Option.{same_Some, slice_get-get_or}
use Rattle.list_lemmas.proofs.Gets.{Contains_get}
use Rattle.search_graph.specs.declared.ends.Start.{Start}
use Rattle.table_query.specs.Tables.{IsRow}
use Rattle.table_query.proofs.tables.RowsJob.item.Goals as goal

pub row-requires-clause-starts : goal.row-requires-clause-starts
row-requires-clause-starts g c = λ s h.
    let sources = c.args.self.now.sources.now in
    let at = slice_get-get_or sources c.args.number c.index-self-number.result c.requires.number in
    c.requires.ready.1 _ s (Contains_get sources c.args.number _ at) (subst (λ (ss : List (Start _)). Contains ss s) c.as_slice.ensures h)

pub returns-in-Ok : goal.returns-in-Ok
returns-in-Ok g c =
    let columns = c.args.self.now.columns.now in
    let o = columns.overlay.now in
    let at = slice_get-get_or c.args.self.now.sources.now c.args.number c.index-self-number.result c.requires.number in
    λ list there. subst (λ (ss : List (Start _)). IsRow g.C.Cost.ops o.frame.now.graph o.weights.now columns.targets.now ss c.in-Ok.row) (c.as_slice.ensures ∙ same_Some _ list (sym at ∙ there)) c.in-Ok.ensures
