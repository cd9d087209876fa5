-- Each turn has one cell more, from the part of the costs that is of its targets.
use Rattle.std.proofs.Common.{◌+◌, ◌≤◌, Fits, w64, List, Option, length, take, rules, sym, subst, ap, arith}
use Rattle.list_lemmas.proofs.Fronts.{all_zip-more}
use Rattle.list_lemmas.proofs.Gets.{get_is}
use Rattle.std.specs.List.{AllZip}
use Rattle.search_graph.specs.declared.ends.Target.{Target}
use Rattle.overlay_query.specs.Answers.{IsLeastCost}
use Rattle.table_query.specs.Tables.{IsCell, IsRow}
use Rattle.table_query.proofs.JoinedLists.{all_zip-from_each, all_zip-part, joined, length-joined_more, part-same, part-within}
use Rattle.table_query.proofs.CellLemmas.{cell-least}
use Rattle.table_query.proofs.tables.row.Goals as goal

pub overflow_add-to : goal.overflow_add-to
overflow_add-to g c =
    let targets = c.args.columns.now.targets.now in
    let k = c.loop-list.list-index in
    let list = c.list-item.result in
    let at = get_is targets k list c.loop-list-test.true (sym c.list-item.is) in
    let size = c.in_ok-costs.ensures.one_each in
    let within = part-within targets c.args.columns.now.all.now c.in_ok-costs.costs.items k c.loop-list.from list c.as_slice.result.now c.requires.ready.joined size c.loop-list.invariant.from at c.as_slice.ensures in
    let fits : Fits w64 (length c.args.columns.now.all.now) = search rules in
    omega (arith, within, size, fits)

pub offset_bounds-deref-from : goal.offset_bounds-deref-from
offset_bounds-deref-from g c =
    let targets = c.args.columns.now.targets.now in
    let k = c.loop-list.list-index in
    let list = c.list-item.result in
    let at = get_is targets k list c.loop-list-test.true (sym c.list-item.is) in
    let within = part-within targets c.args.columns.now.all.now c.in_ok-costs.costs.items k c.loop-list.from list c.as_slice.result.now c.requires.ready.joined c.in_ok-costs.ensures.one_each c.loop-list.invariant.from at c.as_slice.ensures in
    omega (arith, within, ap length c.deref.ensures.value)

pub slice_bounds-least_of-end : goal.slice_bounds-least_of-end
slice_bounds-least_of-end g c =
    let targets = c.args.columns.now.targets.now in
    let k = c.loop-list.list-index in
    let list = c.list-item.result in
    let at = get_is targets k list c.loop-list-test.true (sym c.list-item.is) in
    let within = part-within targets c.args.columns.now.all.now c.in_ok-costs.costs.items k c.loop-list.from list c.as_slice.result.now c.requires.ready.joined c.in_ok-costs.ensures.one_each c.loop-list.invariant.from at c.as_slice.ensures in
    let end : c.loop-list.from + length c.as_slice.result.now ≤ length c.deref.result.now = omega (arith, within, ap length c.deref.ensures.value) in
    end

pub loop-list-preserved : goal.loop-list-preserved
loop-list-preserved g c =
    let ops = g.C.Cost.ops in
    let graph = c.args.columns.now.overlay.now.frame.now.graph in
    let weights = c.args.columns.now.overlay.now.weights.now in
    let starts = c.args.starts.now in
    let targets = c.args.columns.now.targets.now in
    let k = c.loop-list.list-index in
    let list = c.list-item.result in
    let at = get_is targets k list c.loop-list-test.true (sym c.list-item.is) in
    let more = length-joined_more targets k list at in
    record {
      from = omega (arith, more, c.loop-list.invariant.from, ap length c.as_slice.ensures);
      cells =
          subst (λ row. IsRow ops graph weights (take (k + 1) targets) starts row) (sym c.in_ok-push.ensures.items)
          (all_zip-more (IsCell ops graph weights starts) targets c.loop-list.values.items k list c.least_of.result c.loop-list.invariant.cells at
          (let R = IsLeastCost ops c.args.columns.now.overlay.now.frame.now weights starts in
          let costs = c.in_ok-costs.costs.items in
          let zip = all_zip-from_each R c.args.columns.now.all.now costs c.in_ok-costs.ensures.one_each c.in_ok-costs.ensures.least in
          let part = all_zip-part R targets costs k list (subst (λ (l : List (Target _)). AllZip R l costs) c.requires.ready.joined zip) at in
          let same = part-same costs c.deref.result.now c.loop-list.from (length (joined (take k targets))) (length list) (length c.as_slice.result.now) c.deref.ensures.value c.loop-list.invariant.from (ap length c.as_slice.ensures) in
          cell-least g.met.C.Cost.laws c.args.columns.now.overlay.now.frame.now weights starts list _ c.least_of.result (subst (λ (l : List (Option _)). AllZip R list l) (sym same) part) c.least_of.ensures));
    }
