-- The ring of the tests: its hops cost at most one unit, so that its paths fit.
use Rattle.std.proofs.Common.{◌≡◌, ◌≢◌, ℕ, ◌+◌, ◌*◌, ◌%◌, ◌^◌, ◌<◌, ◌≤◌, ◌-◌, inl, inr, arith, List, [], ◌∷◌, Some, All, drop, length, subst}
use Rattle.std.specs.List.{slice_get, slice_range}
use Rattle.std.proofs.lemmas.List.Elements.{All-cons, All-nil, All-take, All-drop}
use Rattle.list_lemmas.proofs.Gets.{All_get}
use Rattle.search_graph.specs.OrderLaws.{same_from_le}
use Rattle.search_graph.specs.declared.costs.WeightDurLen.{WeightDurLen}
use Rattle.search_graph.specs.RoadCosts.{road_cost_ops, road_cost_laws}
use Rattle.search_graph.specs.ChainLaws.{Chain-short}
use Rattle.step_search.specs.Spaces.{HasHop, IsSpace}
use Rattle.worked_graphs.specs.RingOfSix.{six, ring_of_six}

below_six : (v w : ℕ) → v ≡ w % 6 → v < 6
below_six v w e = omega arith

within_one : (a n : ℕ) → a ≡ n → n ≤ 5 → a ≤ 1 * 2 ^ 32
within_one a n e h = omega arith

six_below : All (λ x. x < 6) six
six_below =
    let P : ℕ → Type 0 = λ x. x < 6 in
    All-cons P 2 (3 ∷ 4 ∷ 5 ∷ 0 ∷ 1 ∷ []) (omega arith)
    (All-cons P 3 (4 ∷ 5 ∷ 0 ∷ 1 ∷ []) (omega arith)
    (All-cons P 4 (5 ∷ 0 ∷ 1 ∷ []) (omega arith)
    (All-cons P 5 (0 ∷ 1 ∷ []) (omega arith)
    (All-cons P 0 (1 ∷ []) (omega arith) (All-cons P 1 [] (omega arith) (All-nil P))))))

ahead_below : (u j v : ℕ) → slice_get (slice_range six u (u + 1)) j ≡ Some v → v < 6
ahead_below u j v e =
    let part : All (λ x. x < 6) (slice_range six u (u + 1)) = All-take (λ x. x < 6) (u + 1 - u) (drop u six) (All-drop (λ x. x < 6) u six six_below) in
    All_get (λ x. x < 6) (slice_range six u (u + 1)) j v part e

head_below : (u v : ℕ) (s : WeightDurLen) → HasHop ring_of_six u v s → v < 6
head_below u v s h = elim h [ inl k ↦ below_six v (u + 1) k.1.1 | inr k ↦ ahead_below u k.0 v k.1 ]

hop_within : (u v : ℕ) (s : WeightDurLen) → HasHop ring_of_six u v s → road_cost_ops.units s 1
hop_within u v s h = elim h [
  | inl k ↦ (within_one s.weight 3 k.1.3 (omega arith), within_one s.duration 3 k.1.4 (omega arith), within_one s.length 1 k.1.5 (omega arith))
  | inr k ↦ (within_one s.weight 5 k.2.2 (omega arith), within_one s.duration 5 k.2.3 (omega arith), within_one s.length 2 k.2.4 (omega arith))
]

pub ring_space : IsSpace road_cost_ops ring_of_six
ring_space = record {
  heads = head_below;
  hop_units = λ u v s h. road_cost_laws.units_more s 1 (2 ^ 29) (hop_within u v s h) (omega arith);
  least_units = λ u z d vs may p least.
      let r = Chain-short road_cost_laws {Hop = HasHop ring_of_six} (λ u v s h. tt) 6 1 head_below hop_within u z d vs may.0 p in
      let few : length r.0 < 6 = r.4 in
      subst (λ x. road_cost_ops.units x (2 ^ 28)) (same_from_le road_cost_laws r.1 d tt tt r.3 (least r.0 r.1 r.2)) (road_cost_laws.units_more r.1 (length r.0 * 1) (2 ^ 28) r.5 (omega arith));
}
