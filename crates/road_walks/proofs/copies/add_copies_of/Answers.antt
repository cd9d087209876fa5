use Rattle.std.proofs.Common.{ℕ, ◌<◌, List, [], ◌∷◌, ◌++◌, length, get_or, arith, ap, ◌∙◌}
use Rattle.search_graph.specs.declared.costs.WeightDurLen.{WeightDurLen}
use Rattle.search_graph.specs.declared.ends.Target.{Target}
use Rattle.road_walks.proofs.CopyLemmas.{at_vertex, vertices-more}
use Rattle.road_walks.proofs.copies.add_copies_of.Goals as goal

-- one copy more has its target
pub loop-vertex-preserved : goal.loop-vertex-preserved
loop-vertex-preserved c =
    let cost : WeightDurLen = c.args.target.cost in
    let vs : List ℕ = c.copies-copies.result.now in
    let k : ℕ = c.loop-vertex.vertex-index in
    let lt : k < length vs = omega (arith, c.loop-vertex-test.true) in
    c.in_ok-push.ensures.items
    ∙ ap (λ (l : List (Target WeightDurLen)). l ++ at_vertex cost (get_or vs k 0) ∷ []) c.loop-vertex.invariant
    ∙ vertices-more cost c.args.targets.now.items vs k 0 lt
