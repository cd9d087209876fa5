-- Each turn has one list more.
use Rattle.std.proofs.Common.{◌++◌, ◌∙◌, List, sym, ap, ap₂, arith}
use Rattle.std.proofs.lemmas.List.{take_all}
use Rattle.list_lemmas.proofs.Gets.{get_is}
use Rattle.search_graph.specs.declared.ends.Target.{Target}
use Rattle.table_query.proofs.JoinedLists.{joined, joined-more}
use Rattle.table_query.proofs.columns.all_targets.Goals as goal

pub loop-list-preserved : goal.loop-list-preserved
loop-list-preserved g c =
    let targets = c.args.targets.now in
    let k = c.loop-list.list-index in
    let list = c.list-item.result in
    let more = joined-more targets k list (get_is targets k list c.loop-list-test.true (sym c.list-item.is)) in
    c.in_ok-extend_from_slice.ensures.items ∙ ap₂ (λ (a b : List (Target _)). a ++ b) c.loop-list.invariant c.as_slice.ensures ∙ sym more

pub returns : goal.returns
returns g c = c.loop-list.invariant ∙ ap joined (take_all c.loop-list.list-index c.args.targets.now (omega arith))
