-- The vertices by numbers in which the id of the node that they leave stands above them.
use Rattle.std.proofs.Common.{◌≡◌, ℕ, ℤ, pos, negsuc, ◌+◌, ◌*◌, ◌/◌, ◌<◌, ◌&&◌, List, [], ◌∷◌, length, get_or, Bool, false, not, filter, map, arith, refl, sym, ap, ◌∙◌}
use Rattle.std.specs.List.Sorted.{IsPermutation, IsSortedByKey, IsStableByKey, ties}
use Rattle.std.specs.Ordering.{int_cmp, is_lt}
use Rattle.std.proofs.lemmas.List.{get_or-map, length-map}
use Rattle.std.proofs.lemmas.List.Elements.{filter_agree}
use Rattle.std.proofs.lemmas.List.Sorted.{IsPermutation-map}
use Rattle.road_turns.specs.DepartureParts.{departure_of}
use Rattle.road_turns.specs.declared.departures.Departure.{Departure}
use Rattle.road_turns.proofs.DepartureLemmas.{filter-map}

-- the id that stands in a number
abbrev pub node_in : ℕ → ℤ
node_in n = pos (n / 134217728)

-- nothing is kept by a test that nothing passes
filter-none : (xs : List ℕ) → filter (λ n. false) xs ≡ []
filter-none [] = refl
filter-none (x ∷ xs) = filter-none xs

-- whether the id in a number is this
abbrev pub is_at : ℤ → ℕ → Bool
is_at t n = not (is_lt (int_cmp t (node_in n))) && not (is_lt (int_cmp (node_in n) t))

module _ (ns ms : List ℕ) (same : IsPermutation ns ms) (sorted : IsSortedByKey node_in int_cmp ms) (stable : IsStableByKey node_in int_cmp ns ms) where
  pub same-departures : IsPermutation (map departure_of ns) (map departure_of ms)
  same-departures = IsPermutation-map departure_of ns ms same

  pub sorted-departures : IsSortedByKey (λ (d : Departure). d.node) int_cmp (map departure_of ms)
  sorted-departures k d low h =
      let within : k + 1 < length ms = omega (arith, h, length-map ms departure_of) in
      let first : k < length ms = omega (arith, within) in
      let next = get_or-map departure_of ms (k + 1) 0 d within in
      let here = get_or-map departure_of ms k 0 d first in
      ap (λ (x : Departure). is_lt (int_cmp x.node (get_or (map departure_of ms) k d).node)) next
      ∙ ap (λ (x : Departure). is_lt (int_cmp (node_in (get_or ms (k + 1) 0)) x.node)) here
      ∙ sorted k 0 low within

  tied : (t : ℤ) → filter (is_at t) ms ≡ filter (is_at t) ns
  tied (pos a) =
      let back : a * 134217728 / 134217728 ≡ a = omega arith in
      let same_id : node_in (a * 134217728) ≡ pos a = ap pos back in
      let lt : ℕ → ℕ → Bool = λ m n. is_lt (int_cmp (node_in m) (node_in n)) in
      let agree : (n : ℕ) → is_at (pos a) n ≡ ties lt (a * 134217728) n = λ n. ap (λ (b : ℤ). not (is_lt (int_cmp b (node_in n))) && not (is_lt (int_cmp (node_in n) b))) (sym same_id) in
      filter_agree (is_at (pos a)) (ties lt (a * 134217728)) agree ms ∙ stable (a * 134217728) ∙ sym (filter_agree (is_at (pos a)) (ties lt (a * 134217728)) agree ns)
  tied (negsuc a) =
      filter_agree (is_at (negsuc a)) (λ n. false) (λ n. refl) ms ∙ filter-none ms ∙ sym (filter-none ns) ∙ sym (filter_agree (is_at (negsuc a)) (λ n. false) (λ n. refl) ns)

  pub stable-departures : IsStableByKey (λ (d : Departure). d.node) int_cmp (map departure_of ns) (map departure_of ms)
  stable-departures x =
      let lt : Departure → Departure → Bool = λ d e. is_lt (int_cmp d.node e.node) in
      filter-map (ties lt x) departure_of ms ∙ ap (map departure_of) (tied x.node) ∙ sym (filter-map (ties lt x) departure_of ns)
