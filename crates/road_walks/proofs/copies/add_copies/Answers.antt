use Rattle.std.proofs.Common.{◌≡◌, ℕ, ◌<◌, List, ◌++◌, length, get_or, take, arith, ap, ◌∙◌}
use Rattle.std.proofs.lemmas.List.{get_or_append_left}
use Rattle.search_graph.specs.declared.costs.WeightDurLen.{WeightDurLen}
use Rattle.search_graph.specs.declared.ends.Target.{Target}
use Rattle.edge_graph.specs.NetworkView.{NetworkView}
use Rattle.road_walks.specs.Searched.{all_at_copies, targets_at_copies}
use Rattle.road_walks.proofs.CopyLemmas.{copies-more}
use Rattle.road_walks.proofs.copies.add_copies.Goals as goal

-- those of one target more are there
pub loop-number-preserved : goal.loop-number-preserved
loop-number-preserved c =
    let network : NetworkView = c.args.network.now in
    let targets : List (Target WeightDurLen) = c.args.targets.now.items in
    let k : ℕ = c.loop-number.number in
    let t : Target WeightDurLen = c.index-target.result.now in
    let front : List (Target WeightDurLen) = targets ++ all_at_copies network (take k targets) in
    let lt : k < length targets = omega (arith, c.loop-number-test.true, c.len-number-end.ensures) in
    let read : t ≡ get_or targets k t = c.index-target.ensures ∙ ap (λ (l : List (Target WeightDurLen)). get_or l k t) c.loop-number.invariant ∙ get_or_append_left targets (all_at_copies network (take k targets)) t k lt in
    c.in_ok-add_copies_of.ensures
    ∙ ap (λ (l : List (Target WeightDurLen)). l ++ targets_at_copies network t) c.loop-number.invariant
    ∙ ap (λ (x : Target WeightDurLen). front ++ targets_at_copies network x) read
    ∙ copies-more network targets targets k t lt
