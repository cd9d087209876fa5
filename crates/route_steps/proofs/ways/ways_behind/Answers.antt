use Rattle.std.proofs.Common.{◌*◌, ◌<◌, ℕ, FitsSigned, List, All, ap, arith, length, map, rules, subst, sym, w64, ◌∙◌}
use Rattle.std.specs.List.Sorted.{IsStableByKey}
use Rattle.std.specs.Ordering.{nat_cmp}
use Rattle.std.proofs.lemmas.Int.{to_z-of_z}
use Rattle.std.proofs.lemmas.List.{length-map}
use Rattle.std.proofs.lemmas.List.Sorted.{All-permutation, IsNonDecreasingBy-from_sort_by_key, answers_always, length_permutation}
use Rattle.road_segments.specs.LimitLaws.{few_segments}
use Rattle.road_turns.specs.Departures.{vertices_from}
use Rattle.edge_graph.specs.NetworkView.{vertices_of}
use Rattle.route_steps.specs.Ways.{way_on}
use Rattle.route_steps.specs.declared.ways.Way.{Way}
use Rattle.route_steps.proofs.WayLemmas.{length-vertices_from, sorted-by_bearing, vertices_from-below, ways_behind-head}
use Rattle.route_steps.proofs.ways.ways_behind.Goals as goal

-- what leaves a node is of the network
pub with_bearings-requires : goal.with_bearings-requires
with_bearings-requires c =
    let network = c.args.network.now in
    let fits : FitsSigned w64 c.head.result = search rules in
    let leaving = simp to_z-of_z at c.leaving.ensures in
    subst (All (λ v. v < 2 * length network.segments)) (sym leaving) (vertices_from-below network c.head.result)

-- sorted stably by their bearings they are in the order of the definition
pub returns-clause-ways : goal.returns-clause-ways
returns-clause-ways c =
    let network = c.args.network.now in
    let fits : FitsSigned w64 c.head.result = search rules in
    let leaving = simp to_z-of_z at c.leaving.ensures in
    let vs : List ℕ = vertices_from (vertices_of network) c.head.result in
    let old : List Way = c.in_ok-ways.ways.items in
    let ways : List Way = c.sort_by_key.new.self.items in
    let stable : IsStableByKey (λ (way : Way). way.bearing) nat_cmp old ways = c.in_ok-sort_by_key.ensures.stable (λ way. way.bearing) (answers_always _ _ _ (λ f a r g h. search rules)) in
    sorted-by_bearing network vs ways (IsNonDecreasingBy-from_sort_by_key (λ way. way.bearing) _ c.in_ok-sort_by_key.ensures.sorted (λ a r q k. search rules))
    (All-permutation (λ (way : Way). way.bearing < 360) old ways c.in_ok-sort_by_key.ensures.permutation c.in_ok-ways.ensures.bound)
    (subst (λ (l : List Way). IsStableByKey (λ (way : Way). way.bearing) nat_cmp l ways) (c.in_ok-ways.ensures.ways ∙ ap (map (way_on network)) leaving) stable)
    ∙ ap (map (way_on network)) (sym (ways_behind-head network c.args.d c.head.result c.head.ensures))

-- a network has not so many vertices
pub returns-clause-few : goal.returns-clause-few
returns-clause-few c =
    let network = c.args.network.now in
    let fits : FitsSigned w64 c.head.result = search rules in
    let leaving = simp to_z-of_z at c.leaving.ensures in
    let vs : List ℕ = vertices_from (vertices_of network) c.head.result in
    let old : List Way = c.in_ok-ways.ways.items in
    let ways : List Way = c.sort_by_key.new.self.items in
    omega (
      arith,
      length_permutation old ways c.in_ok-sort_by_key.ensures.permutation,
      ap length (c.in_ok-ways.ensures.ways ∙ ap (map (way_on network)) leaving),
      length-map {A = ℕ} {B = Way} vs (way_on network),
      length-vertices_from network c.head.result,
      c.graph-turns.ensures.limits.segments,
      few_segments,
    )
