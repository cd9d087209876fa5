-- Each row is that from the starts of its number.
use Rattle.std.proofs.lemmas.Result.{IfOk-weaker}
use Rattle.table_query.specs.Tables.{IsRow}
use Rattle.table_query.proofs.JoinedLists.{all_zip-from_each}
use Rattle.table_query.proofs.tables.rows_in_threads.Goals as goal

pub returns : goal.returns
returns g c =
    let columns = c.args.columns.now in
    let o = columns.overlay.now in
    IfOk-weaker c.items_in_threads.result _ _ (λ rows are. all_zip-from_each (IsRow g.C.Cost.ops o.frame.now.graph o.weights.now columns.targets.now) c.args.sources.now rows.items are.size (λ k starts row at made. are.each k row made starts at)) c.items_in_threads.ensures
