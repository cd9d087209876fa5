-- The targets of a place with those at the copies of their vertices are all of the searched graph that stand for one.
use Rattle.std.proofs.Common.{◌≡◌, ℕ, ◌+◌, ◌*◌, ◌<◌, ◌≤◌, ◌⊎◌, inl, inr, List, [], ◌∷◌, ◌++◌, length, map, get_or, take, ap, refl, subst, sym, ◌∙◌, arith, append_assoc}
use Rattle.std.specs.List.{Contains}
use Rattle.std.proofs.lemmas.Bool.{cases_lt}
use Rattle.std.proofs.lemmas.List.{append-nil, map_push}
use Rattle.std.proofs.lemmas.List.Elements.{Contains-append_cases, Contains-append_left, Contains-append_right}
use Rattle.std.proofs.lemmas.Option.{slice_get-get_or}
use Rattle.list_lemmas.proofs.Fronts.{take-get}
use Rattle.list_lemmas.proofs.Singles.{Contains_one}
use Rattle.road_base.specs.declared.segments.Place.{Place}
use Rattle.search_graph.specs.declared.costs.WeightDurLen.{WeightDurLen}
use Rattle.search_graph.specs.declared.ends.Target.{Target}
use Rattle.edge_graph.specs.GraphLaws.{copy-stands, is-copy, ordinary-stands, segments-in-graph}
use Rattle.edge_graph.specs.NetworkView.{NetworkView, copies_at, graph_of, stands}
use Rattle.metric_make.specs.RoadMetric.{RoadMetric}
use Rattle.road_places.specs.Ends.{AreAll}
use Rattle.road_places.specs.Places.{IsPlaceOn}
use Rattle.road_places.specs.Permitted.{IsTarget}
use Rattle.road_walks.specs.Searched.{IsTargetIn, all_at_copies, targets_at_copies}
use Rattle.road_walks.proofs.TurnLemmas.{target-ordinary}
use Rattle.via_paths.specs.Standing.{target_for}
use Rattle.via_paths.specs.ArcLaws.{Contains-map, map-Contains}
use Rattle.via_paths.specs.WordLaws.{Contains-cons}

no-target : (t : Target WeightDurLen) → ¬ Contains [] t
no-target t h = omega (arith, h.1)

abbrev pub at_vertex : WeightDurLen → ℕ → Target WeightDurLen
at_vertex cost v = record { vertex = v; cost = cost }

-- a target at one vertex more behind a list
pub vertices-more : (cost : WeightDurLen) (list : List (Target WeightDurLen)) (vs : List ℕ) (k d : ℕ) → k < length vs
    → (list ++ map (at_vertex cost) (take k vs)) ++ at_vertex cost (get_or vs k d) ∷ [] ≡ list ++ map (at_vertex cost) (take (k + 1) vs)
vertices-more cost list vs k d lt =
    let v : ℕ = get_or vs k d in
    append_assoc list (map (at_vertex cost) (take k vs)) (at_vertex cost v ∷ [])
    ∙ ap (λ (l : List (Target WeightDurLen)). list ++ l) (sym (map_push (at_vertex cost) (take k vs) v))
    ∙ ap (λ (l : List ℕ). list ++ map (at_vertex cost) l) (sym (take-get vs k v (slice_get-get_or vs k d lt)))

module _ (network : NetworkView) where
  -- one more target has those at its copies behind those of the others
  pub all_at_copies-more : (targets : List (Target WeightDurLen)) (t : Target WeightDurLen) → all_at_copies network (targets ++ t ∷ []) ≡ all_at_copies network targets ++ targets_at_copies network t
  all_at_copies-more [] t = append-nil (targets_at_copies network t)
  all_at_copies-more (s ∷ targets) t =
      ap (λ (l : List (Target WeightDurLen)). targets_at_copies network s ++ l) (all_at_copies-more targets t)
      ∙ sym (append_assoc (targets_at_copies network s) (all_at_copies network targets) (targets_at_copies network t))

  -- those of one target more behind a list
  pub copies-more : (list targets : List (Target WeightDurLen)) (k : ℕ) (d : Target WeightDurLen) → k < length targets
      → (list ++ all_at_copies network (take k targets)) ++ targets_at_copies network (get_or targets k d) ≡ list ++ all_at_copies network (take (k + 1) targets)
  copies-more list targets k d lt =
      let t : Target WeightDurLen = get_or targets k d in
      append_assoc list (all_at_copies network (take k targets)) (targets_at_copies network t)
      ∙ ap (λ (l : List (Target WeightDurLen)). list ++ l) (sym (all_at_copies-more (take k targets) t))
      ∙ ap (λ (l : List (Target WeightDurLen)). list ++ all_at_copies network l) (sym (take-get targets k t (slice_get-get_or targets k d lt)))

  -- a target at a vertex of the network stands for itself
  own-target : (t : Target WeightDurLen) → t.vertex < 2 * length network.segments → target_for (stands network) t ≡ t
  own-target t lt = ap (at_vertex t.cost) (ordinary-stands network t.vertex lt)

  -- one at a copy of the vertex of another stands for that
  copy-target : (s t : Target WeightDurLen) → Contains (targets_at_copies network s) t → (t.vertex < (graph_of network).vertices) × (target_for (stands network) t ≡ s)
  copy-target s t h =
      let m = Contains-map (at_vertex s.cost) (copies_at network s.vertex) t h in
      let copy = copy-stands network s.vertex m.0 m.1 in (
        subst (λ (x : Target WeightDurLen). x.vertex < (graph_of network).vertices) (sym m.2) copy.1,
        ap (target_for (stands network)) m.2 ∙ ap (at_vertex s.cost) copy.2,
      )

  -- each of those at copies is one at a copy of some target's vertex
  of-some : (targets : List (Target WeightDurLen)) (t : Target WeightDurLen) → Contains (all_at_copies network targets) t
      → (s : Target WeightDurLen) × Contains targets s × Contains (targets_at_copies network s) t
  of-some [] t h = absurd (no-target t h)
  of-some (s ∷ targets) t h = elim (Contains-append_cases (targets_at_copies network s) (all_at_copies network targets) t h) [
    | inl here ↦ (s, Contains-append_left (s ∷ []) targets s (Contains_one s), here)
    | inr more ↦ let r = of-some targets t more in (r.0, Contains-append_right (s ∷ []) targets r.0 r.1, r.2)
  ]

  -- and all of them are listed
  some-of : (targets : List (Target WeightDurLen)) (s t : Target WeightDurLen) → Contains targets s → Contains (targets_at_copies network s) t → Contains (all_at_copies network targets) t
  some-of [] s t h k = absurd (no-target s h)
  some-of (r ∷ targets) s t h k = elim (Contains-cons r s targets h) [
    | inl is ↦ Contains-append_left (targets_at_copies network r) (all_at_copies network targets) t (subst (λ (x : Target WeightDurLen). Contains (targets_at_copies network x) t) is k)
    | inr more ↦ Contains-append_right (targets_at_copies network r) (all_at_copies network targets) t (some-of targets s t more k)
  ]

  -- what stands for a target is at its vertex or at a copy of it
  at-copy : (t : Target WeightDurLen) → 2 * length network.segments ≤ t.vertex → t.vertex < (graph_of network).vertices → Contains (targets_at_copies network (target_for (stands network) t)) t
  at-copy t le lt = map-Contains (at_vertex t.cost) (copies_at network (stands network t.vertex)) t.vertex (is-copy network (stands network t.vertex) t.vertex le lt refl)

module _ (road : RoadMetric) (q : Place) (on : IsPlaceOn road.network q) (targets : List (Target WeightDurLen)) (are_targets : AreAll (IsTarget road.weights q) targets) where
  all : List (Target WeightDurLen)
  all = targets ++ all_at_copies road.network targets

  each-stands : (t : Target WeightDurLen) → Contains all t → IsTargetIn road q t
  unfolding all
  each-stands t h = elim (Contains-append_cases targets (all_at_copies road.network targets) t h) [
    | inl own ↦
        let is = are_targets.each t own in
        let lt = target-ordinary road q on t is in
        record {
          within = omega (arith, lt, segments-in-graph road.network);
          is = subst (IsTarget road.weights q) (sym (own-target road.network t lt)) is;
        }
    | inr copied ↦
        let some = of-some road.network targets t copied in
        let copy = copy-target road.network some.0 t some.2 in
        record {
          within = copy.0;
          is = subst (IsTarget road.weights q) (sym copy.1) (are_targets.each some.0 some.1);
        }
  ]

  every-there : (t : Target WeightDurLen) → IsTargetIn road q t → (t.vertex < 2 * length road.network.segments) ⊎ (2 * length road.network.segments ≤ t.vertex) → Contains all t
  unfolding all
  every-there t h (inl lt) = Contains-append_left targets (all_at_copies road.network targets) t (are_targets.every t (subst (IsTarget road.weights q) (own-target road.network t lt) h.is))
  every-there t h (inr le) =
      Contains-append_right targets (all_at_copies road.network targets) t
      (some-of road.network targets (target_for (stands road.network) t) t (are_targets.every (target_for (stands road.network) t) h.is) (at-copy road.network t le h.within))

  pub targets-with_copies : (list : List (Target WeightDurLen)) → list ≡ targets ++ all_at_copies road.network targets → AreAll (IsTargetIn road q) list
  unfolding all
  targets-with_copies list e = subst (AreAll (IsTargetIn road q)) (sym e) (record {
    each = each-stands;
    every = λ t h. every-there t h (cases_lt t.vertex (2 * length road.network.segments));
  })
