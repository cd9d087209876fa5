-- What the vertices cost those who avoid a set, one after another and all together.
use Rattle.std.proofs.Common.{◌≡◌, ℕ, ◌+◌, ◌<◌, cond, List, [], ◌∷◌, ◌++◌, length, get_or, take, Option, Some, None, sym, ap, ◌∙◌}
use Rattle.std.specs.Prelude.{option_map, unwrap_or}
use Rattle.std.specs.List.{list_any, slice_get, zip}
use Rattle.std.proofs.lemmas.Option.{slice_get-get_or, slice_get-map}
use Rattle.list_lemmas.proofs.Fronts.{slice_get-zip, take-get}
use Rattle.list_lemmas.proofs.Gets.{get_some}
use Rattle.road_base.specs.Words.{is_among}
use Rattle.edge_graph.specs.NetworkView.{NetworkView, vertices_of}
use Rattle.road_segments.specs.Vertex.{Vertex}
use Rattle.search_graph.specs.declared.costs.WeightDurLen.{WeightDurLen}
use Rattle.search_graph.specs.Digraph.{Weighting}
use Rattle.metric_make.specs.Avoiding.{avoided, avoided_cost, avoided_costs, set_at}
use Rattle.metric_make.specs.MetricOf.{with_copies}
use Rattle.metric_make.proofs.MatchLemmas.{field-at}

-- one vertex more
pub avoided_costs-step : (set : List (List ℕ)) (vs : List Vertex) (all costs new : List (Option WeightDurLen)) (v : ℕ) (classes : List (List ℕ)) (cost : Option WeightDurLen) → v < length vs
    → option_map (λ (x : Vertex). x.classes) (slice_get vs v) ≡ Some classes
    → slice_get all v ≡ Some cost
    → new ≡ costs ++ cond (list_any (is_among set) classes) None cost ∷ []
    → costs ≡ take v (avoided_costs set vs all)
    → new ≡ take (v + 1) (avoided_costs set vs all)
avoided_costs-step set vs all costs new v classes cost lt read paid pushed so_far =
    let g = get_some vs v lt in
    let x = g.0 in
    let whole = avoided_costs set vs all in
    let classes_are : x.classes ≡ classes = field-at (λ (y : Vertex). y.classes) vs v x classes g.1 read in
    let one : slice_get whole v ≡ Some (avoided_cost set x cost) =
    slice_get-map (λ (p : Vertex × Option WeightDurLen). avoided_cost set p.0 p.1) (zip vs all) v
    ∙ ap (option_map (λ (p : Vertex × Option WeightDurLen). avoided_cost set p.0 p.1)) (slice_get-zip vs all v x cost g.1 paid) in
    pushed
    ∙ ap (λ (front : List (Option WeightDurLen)). front ++ cond (list_any (is_among set) classes) None cost ∷ []) so_far
    ∙ ap (λ (names : List (List ℕ)). take v whole ++ cond (list_any (is_among set) names) None cost ∷ []) (sym classes_are)
    ∙ sym (take-get whole v (avoided_cost set x cost) one)

-- weights made by the set that was read, over the costs that were kept
pub avoided-made : (network : NetworkView) (k : ℕ) (set : List (List ℕ)) (kept w made : Weighting WeightDurLen) (vertex : List (Option WeightDurLen)) → k < length network.profile.excludable
    → set ≡ get_or network.profile.excludable k set
    → kept ≡ w
    → vertex ≡ with_copies network (avoided_costs set (vertices_of network) kept.vertex)
    → made ≡ record { vertex = vertex; arc = kept.arc }
    → made ≡ avoided network (Some k) w
avoided-made network k set kept w made vertex lt read same costs is =
    let vs = vertices_of network in
    let set_is : set_at network.profile k ≡ set = ap (λ (o : Option (List (List ℕ))). unwrap_or o []) (slice_get-get_or network.profile.excludable k set lt) ∙ sym read in
    is
    ∙ ap (λ (costs : List (Option WeightDurLen)). record { vertex = costs; arc = kept.arc }) costs
    ∙ ap (λ (names : List (List ℕ)). record { vertex = with_copies network (avoided_costs names vs kept.vertex); arc = kept.arc }) (sym set_is)
    ∙ ap (λ (u : Weighting WeightDurLen). record { vertex = with_copies network (avoided_costs (set_at network.profile k) vs u.vertex); arc = u.arc }) same
