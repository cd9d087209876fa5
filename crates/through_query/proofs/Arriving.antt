-- Sums and states before, one state on.
use Rattle.std.proofs.Common.{◌≡◌, ℕ, ◌+◌, ◌<◌, List, [], ◌∷◌, ◌++◌, Option, Some, None, length, slice_index_or, inl, inr, refl, sym, subst, ap, ◌∙◌, arith, IfSome}
use Rattle.std.specs.Option.{option_map}
use Rattle.std.proofs.lemmas.Option.{same_Some}
use Rattle.search_graph.specs.RoadCosts.{road_cost_ops}
use Rattle.through_query.specs.Layers.{AreArrivals, AreSumsWithin, IsArrival, IsStart, IsSumWithin, plain}
use Rattle.through_query.specs.declared.legs.LegCosts.{LegCosts}
use Rattle.through_query.specs.declared.sums.Sum.{Sum}
use Rattle.through_query.proofs.Reading.{at_or_before, longer, read_front, read_last, some_within}

within_some : (m : ℕ) (v : Option Sum) (s : Sum) → IfSome v (IsSumWithin m) → v ≡ Some s → IsSumWithin m s
within_some m None s h e = cc
within_some m (Some t) s h e = subst (λ u. IsSumWithin m u) (same_Some t s e) h

room_more : (m : ℕ) (sums : List (Option Sum)) (v : Option Sum) → AreSumsWithin m sums → IfSome v (IsSumWithin m) → AreSumsWithin m (sums ++ v ∷ [])
room_more m sums v h k x s e =
    let size = longer sums v (length sums) refl in
    let inside = some_within (sums ++ v ∷ []) x s e in
    elim (at_or_before (length sums) x (omega (arith, size, inside))) [
      | inl last ↦ within_some m v s k (sym (read_last None sums v x last) ∙ e)
      | inr front ↦ h x s (sym (read_front None sums v x front) ∙ e)
    ]

-- nothing is paid at one state more
pub start_more : (n : ℕ) (sums : List (Option Sum)) (s : Sum) → IsStart n sums → plain s ≡ road_cost_ops.zero → IsSumWithin 0 s → IsStart (n + 1) (sums ++ Some s ∷ [])
start_more n sums s h zero room = record {
  size = longer sums (Some s) n h.size;
  each = λ x lt. elim (at_or_before n x lt) [
    | inl last ↦ ap (option_map plain) (read_last None sums (Some s) x (last ∙ sym h.size)) ∙ ap Some zero
    | inr front ↦ ap (option_map plain) (read_front None sums (Some s) x (let size = h.size in omega (arith, front, size))) ∙ h.each x front
  ];
  room = room_more 0 sums (Some s) h.room room;
}

-- the arrival at one state more
pub arrivals_more : (sums : List (Option Sum)) (leg : LegCosts) (n : ℕ) (reached : List (Option Sum)) (befores : List ℕ) (v : Option Sum) (b : ℕ)
    → AreArrivals sums leg n reached befores → IsArrival sums leg n v b → ((m : ℕ) → AreSumsWithin m sums → IfSome v (IsSumWithin (m + 1))) → AreArrivals sums leg (n + 1) (reached ++ v ∷ []) (befores ++ b ∷ [])
arrivals_more sums leg n reached befores v b h arrival room = record {
  sums_size = longer reached v n h.sums_size;
  befores_size = longer befores b n h.befores_size;
  each = λ y lt. elim (at_or_before n y lt) [
    | inl last ↦
        subst (λ s. IsArrival sums leg y s (slice_index_or (befores ++ b ∷ []) y 0)) (sym (read_last None reached v y (last ∙ sym h.sums_size)))
        (subst (λ x. IsArrival sums leg y v x) (sym (read_last 0 befores b y (last ∙ sym h.befores_size))) (subst (λ i. IsArrival sums leg i v b) (sym last) arrival))
    | inr front ↦
        let sums_lt : y < length reached = let size = h.sums_size in omega (arith, front, size) in
        let befores_lt : y < length befores = let size = h.befores_size in omega (arith, front, size) in
        subst (λ s. IsArrival sums leg y s (slice_index_or (befores ++ b ∷ []) y 0)) (sym (read_front None reached v y sums_lt))
        (subst (λ x. IsArrival sums leg y (slice_index_or reached y None) x) (sym (read_front 0 befores b y befores_lt)) (h.each y front))
  ];
  room = λ m w. room_more (m + 1) reached v (h.room m w) (room m w);
}
