use Rattle.std.proofs.Common.{◌≡◌, ℕ, ◌<◌, List, ◌++◌, length, get_or, map, take, drop, arith, ap, ◌∙◌}
use Rattle.std.proofs.Math.ListN.{set}
use Rattle.edge_graph.specs.NetworkView.{stands}
use Rattle.road_walks.proofs.StandLemmas.{mapped-more, mapped-next}
use Rattle.road_walks.proofs.cheapest.stand_for.Goals as goal

-- one more vertex is put in place
pub loop-place-preserved : goal.loop-place-preserved
loop-place-preserved c =
    let f : ℕ → ℕ = stands c.args.network.now in
    let xs : List ℕ = c.args.walk.now.items in
    let k : ℕ = c.loop-place.place in
    let v : ℕ = c.index.result.now in
    let lt : k < length xs = omega (arith, c.loop-place-test.true, c.len-place-end.ensures) in
    let read : v ≡ get_or xs k v = c.index.ensures ∙ ap (λ (l : List ℕ). get_or l k v) c.loop-place.invariant ∙ mapped-next f xs k v lt in
    ap (λ (l : List ℕ). set l k c.stands_for.result) c.loop-place.invariant
    ∙ ap (λ (x : ℕ). set (map f (take k xs) ++ drop k xs) k x) (c.stands_for.ensures.value ∙ ap f read)
    ∙ mapped-more f xs k v lt
