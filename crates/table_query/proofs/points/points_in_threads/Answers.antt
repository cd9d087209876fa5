-- Each point is that of the target of its number.
use Rattle.std.proofs.lemmas.Result.{IfOk-weaker}
use Rattle.table_query.specs.Columns.{IsPoint}
use Rattle.table_query.proofs.JoinedLists.{all_zip-from_each}
use Rattle.table_query.proofs.points.points_in_threads.Goals as goal

pub returns : goal.returns
returns g c =
    let o = c.args.overlay.now in
    IfOk-weaker c.items_in_threads.result _ _ (λ points are. all_zip-from_each (IsPoint g.C.Cost.ops o.frame.now o.weights.now) c.args.all.now points.items are.size (λ k t point at made. are.each k point made t at)) c.items_in_threads.ensures
