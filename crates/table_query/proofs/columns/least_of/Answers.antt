-- Each turn takes one cost more.
use Rattle.std.proofs.Common.{◌≡◌, List, Option, Some, take, sym, subst, arith}
use Rattle.std.proofs.lemmas.List.{take_all}
use Rattle.list_lemmas.proofs.Fronts.{take-get}
use Rattle.list_lemmas.proofs.Gets.{get_is}
use Rattle.table_query.specs.LeastCosts.{IsLeastAmong}
use Rattle.table_query.specs.LesserLaws.{least-either}
use Rattle.table_query.proofs.CellLemmas.{IsOneOf, least-nil, least-one, least-push}
use Rattle.table_query.proofs.columns.least_of.Goals as goal

pub loop-cost-init : goal.loop-cost-init
loop-cost-init g c = least-nil g.C.Cost.ops

pub loop-cost-preserved : goal.loop-cost-preserved
loop-cost-preserved g c =
    let ops = g.C.Cost.ops in
    let costs = c.args.costs.now in
    let k = c.loop-cost.cost-index in
    let cost = c.cost-item.result in
    let front = take-get costs k cost (get_is costs k cost c.loop-cost-test.true (sym c.cost-item.is)) in
    subst (λ (some : List (Option _)). IsLeastAmong ops (IsOneOf some) c.lesser-best.result) (sym front)
    (least-push ops (take k costs) cost c.lesser-best.result
    (least-either g.met.C.Cost.laws (IsOneOf (take k costs)) (λ e. cost ≡ Some e) c.loop-cost.best cost c.lesser-best.result c.lesser-best.ensures c.loop-cost.invariant (least-one g.met.C.Cost.laws cost)))

pub returns : goal.returns
returns g c = subst (λ (some : List (Option _)). IsLeastAmong g.C.Cost.ops (IsOneOf some) c.loop-cost.best) (take_all c.loop-cost.cost-index c.args.costs.now (omega arith)) c.loop-cost.invariant
