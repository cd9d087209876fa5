-- The states of a place, where walks start and end in them, and the costs of a leg between them.
use Rattle.std.proofs.Common.{◌≡◌, ℕ, ◌+◌, ◌*◌, ◌/◌, ◌%◌, ◌^◌, ◌<◌, ◌≤◌, ◌==◌, Bool, not, List, [], ◌∷◌, ◌++◌, filter, length, map, get_or, Option, Some, None, arith, below_more, refl, sym, subst, ap, ◌∙◌, length-append}
use Rattle.std.specs.List.{AllZip, Contains, range_with_len, slice_get}
use Rattle.std.proofs.Math.Seq.{get_or-append_seam}
use Rattle.std.proofs.lemmas.List.{get_or_append_left}
use Rattle.std.proofs.lemmas.List.Filters.{length-filter_both}
use Rattle.std.proofs.lemmas.List.FromFn.{length-range_with_len}
use Rattle.std.proofs.lemmas.Nat.{div-mul-add, div_below, mod-mul-add, mod_below, mul-add-lt}
use Rattle.std.proofs.lemmas.Option.{get_or_from_slice_get, slice_get-get_or, slice_get_within}
use Rattle.list_lemmas.proofs.Fronts.{all_zip-length}
use Rattle.list_lemmas.proofs.Gets.{Contains_get, get_is}
use Rattle.road_base.specs.declared.segments.Place.{Place}
use Rattle.search_graph.specs.declared.costs.WeightDurLen.{WeightDurLen}
use Rattle.search_graph.specs.declared.ends.Start.{Start}
use Rattle.search_graph.specs.declared.ends.Target.{Target}
use Rattle.edge_graph.specs.GraphLaws.{graph-vertices}
use Rattle.edge_graph.specs.NetworkView.{NetworkView, copies_at, copies_in, graph_of, stands}
use Rattle.metric_make.specs.RoadMetric.{RoadMetric}
use Rattle.road_places.specs.Ends.{AreAll}
use Rattle.road_places.specs.Permitted.{IsStart}
use Rattle.road_walks.specs.Between.{AreLegCosts, IsCostBetween, IsStartAt, IsTargetAt, states_of}
use Rattle.road_walks.specs.BetweenParts.{IsCostByTurns, IsRowFromState, start_moved}
use Rattle.road_walks.specs.Searched.{IsTargetIn}
use Rattle.road_walks.proofs.KeptLemmas.{are_all-kept}
use Rattle.road_walks.proofs.TableLemmas.{all_zip-at}
use Rattle.via_paths.specs.Standing.{start_for, target_for}
use Rattle.via_paths.specs.ArcLaws.{Contains-map, map-Contains}

-- a vertex has no more copies than the graph has vertices
copies-few : (network : NetworkView) (v : ℕ) → length (copies_at network v) ≤ (graph_of network).vertices
copies-few network v =
    let n : ℕ = 2 * length network.segments in
    let all : List ℕ = range_with_len n (length (copies_in network)) in
    let test : ℕ → Bool = λ q. stands network q == v in
    let both = length-filter_both {X = ℕ} test (λ q. not (test q)) (λ q. refl) all in
    omega (arith, both, length-range_with_len n (length (copies_in network)), graph-vertices network)

-- so a place has few states
pub states-few : (network : NetworkView) (place : Place) → (graph_of network).vertices ≤ 2 ^ 27 → length (states_of network place) < 2 ^ 32
states-few network place few =
    let f : List ℕ = copies_at network (2 * place.segment) in
    let b : List ℕ = copies_at network (2 * place.segment + 1) in
    let sum : length (f ++ b) ≡ length f + length b = length-append f b in
    omega (arith, sum, few, copies-few network (2 * place.segment), copies-few network (2 * place.segment + 1))

-- and two or more
pub states-some : (network : NetworkView) (place : Place) → 2 ≤ length (states_of network place)
states-some network place = omega arith

module _ (road : RoadMetric) (place : Place) (d : ℕ) where
  -- a start of the place at the vertex for which d stands is one in d where it is moved there
  moved-is : (x : Start WeightDurLen) → IsStart road.weights place x → x.vertex ≡ stands road.network d → IsStartAt road place d (start_moved d x)
  moved-is x h at =
      let same : x ≡ start_for (stands road.network) (start_moved d x) = ap (λ (v : ℕ). start_moved v x) at in
      (subst (IsStart road.weights place) same h, refl)

  -- all starts in d are such
  pub starts-moved : (starts kept moved : List (Start WeightDurLen)) → AreAll (IsStart road.weights place) starts → kept ≡ filter (λ (s : Start WeightDurLen). s.vertex == stands road.network d) starts → moved ≡ map (start_moved d) kept
      → AreAll (IsStartAt road place d) moved
  starts-moved starts kept moved all e f =
      let are = are_all-kept (λ (s : Start WeightDurLen). s.vertex) (stands road.network d) (IsStart road.weights place) starts kept all e in
      subst (AreAll (IsStartAt road place d)) (sym f) (record {
        each = λ s h.
            let from = Contains-map (start_moved d) kept s h in
            let had = are.each from.0 from.1 in
            subst (IsStartAt road place d) (sym from.2) (moved-is from.0 had.0 had.1);
        every = λ s h.
            let x : Start WeightDurLen = start_for (stands road.network) s in
            let there = are.every x (h.0, ap (stands road.network) h.1) in
            let back : start_moved d x ≡ s = ap (λ (v : ℕ). start_moved v s) (sym h.1) in
            subst (Contains (map (start_moved d) kept)) back (map-Contains (start_moved d) kept x there);
      })

  -- what is moved of starts that are moved
  pub moved-has : (kept : List (Start WeightDurLen)) (s : Start WeightDurLen) → Contains (map (start_moved d) kept) s → (x : Start WeightDurLen) × Contains kept x × (s ≡ start_moved d x)
  moved-has kept s h = Contains-map (start_moved d) kept s h

  -- the targets of the searched graph in d are those in state d
  pub targets-kept : d < (graph_of road.network).vertices → (targets : List (Target WeightDurLen)) → AreAll (λ (t : Target WeightDurLen). IsTargetIn road place t × (t.vertex ≡ d)) targets → AreAll (IsTargetAt road place d) targets
  targets-kept lt targets all = record {
    each = λ t h. let is = all.each t h in (is.0.is, is.1);
    every = λ t h. all.every t (record { within = subst (λ (v : ℕ). v < (graph_of road.network).vertices) (sym h.1) lt; is = h.0 }, h.1);
  }

-- one value more
pub each-pushed : {A : Type 0} (P : ℕ → A → Type 0) (xs : List A) (x d : A) (n : ℕ) → length xs ≡ n → ((k : ℕ) → k < n → P k (get_or xs k d)) → P n x → (k : ℕ) → k < n + 1 → P k (get_or (xs ++ x ∷ []) k d)
each-pushed P xs x d n many each here = below_more (λ k. P k (get_or (xs ++ x ∷ []) k d)) n
    (λ k lt. subst (P k) (sym (get_or_append_left xs (x ∷ []) d k (omega (arith, many, lt)))) (each k lt))
    (subst (P n) (sym (ap (λ m. get_or (xs ++ x ∷ []) m d) (sym many) ∙ get_or-append_seam xs x [] d)) here)

module _ (road : RoadMetric) (p q : Place) where
  -- the row of a state has a value for each state of the other place
  pub row-values : (d : ℕ) (row : List (Option WeightDurLen)) → IsRowFromState road p q d row → length row ≡ length (states_of road.network q)
  row-values d row h = all_zip-length (IsCostByTurns road p q d) (states_of road.network q) row h

  -- the row of state d
  pub row-at : (rows : List (List (Option WeightDurLen))) (row : List (Option WeightDurLen)) (x d : ℕ) → AllZip (IsRowFromState road p q) (states_of road.network p) rows
      → slice_get (states_of road.network p) x ≡ Some d → slice_get rows x ≡ Some row → IsRowFromState road p q d row
  row-at rows row x d h at there = all_zip-at (IsRowFromState road p q) (states_of road.network p) rows x d row h at there

  -- and its value for state e
  pub row-value : (row : List (Option WeightDurLen)) (d y e : ℕ) → IsRowFromState road p q d row → slice_get (states_of road.network q) y ≡ Some e → IsCostByTurns road p q d e (get_or row y None)
  row-value row d y e h at =
      let many = row-values d row h in
      let inside = slice_get_within (states_of road.network q) y e at in
      all_zip-at (IsCostByTurns road p q d) (states_of road.network q) row y e (get_or row y None) h at (slice_get-get_or row y None (omega (arith, many, inside)))

  -- value j of them is that from the state of number j / m to that of number j % m
  abbrev pub IsCostOf : ℕ → Option WeightDurLen → Type 0
  IsCostOf j value = IsCostBetween road p q (get_or (states_of road.network p) (j / length (states_of road.network q)) 0) (get_or (states_of road.network q) (j % length (states_of road.network q)) 0) value

  -- one value more
  pub pairs-more : (costs pushed : List (Option WeightDurLen)) (value : Option WeightDurLen) (n : ℕ) → pushed ≡ costs ++ value ∷ [] → length costs ≡ n → ((k : ℕ) → k < n → IsCostOf k (get_or costs k None)) → IsCostOf n value
      → (length pushed ≡ n + 1) × ((k : ℕ) → k < n + 1 → IsCostOf k (get_or pushed k None))
  pairs-more costs pushed value n e count each here = (
    omega (arith, ap length e, length-append costs (value ∷ []), count),
    λ j lt. subst (λ (items : List (Option WeightDurLen)). IsCostOf j (get_or items j None)) (sym e) (each-pushed IsCostOf costs value None n count each here j lt),
  )

  pub leg-costs : (costs : List (Option WeightDurLen)) (n : ℕ) → n ≡ length (states_of road.network p) * length (states_of road.network q) → length costs ≡ n → ((j : ℕ) → j < n → IsCostOf j (get_or costs j None)) → AreLegCosts road p q costs
  leg-costs costs n all many each = record {
    count = many ∙ all;
    each = λ x y d e at there.
        let m : ℕ = length (states_of road.network q) in
        let low : x < length (states_of road.network p) = slice_get_within (states_of road.network p) x d at in
        let high : y < m = slice_get_within (states_of road.network q) y e there in
        let inside : x * m + y < n = omega (arith, all, mul-add-lt x m y (length (states_of road.network p)) low high) in
        let start : get_or (states_of road.network p) ((x * m + y) / m) 0 ≡ d =
        ap (λ (k : ℕ). get_or (states_of road.network p) k 0) (div-mul-add x m y high) ∙ get_or_from_slice_get (states_of road.network p) x d 0 at in
        let end : get_or (states_of road.network q) ((x * m + y) % m) 0 ≡ e =
        ap (λ (k : ℕ). get_or (states_of road.network q) k 0) (mod-mul-add x m y high) ∙ get_or_from_slice_get (states_of road.network q) y e 0 there in
        subst (λ (u : ℕ). IsCostBetween road p q u e (get_or costs (x * m + y) None)) start
        (subst (λ (v : ℕ). IsCostBetween road p q (get_or (states_of road.network p) ((x * m + y) / m) 0) v (get_or costs (x * m + y) None)) end (each (x * m + y) inside));
  }

module _ (network : NetworkView) (place : Place) (states : List ℕ) (are : states ≡ states_of network place) where
  -- the state of a number, read from a list of them
  pub state-read : (k d : ℕ) → k < length states → d ≡ get_or states k d → slice_get (states_of network place) k ≡ Some d
  state-read k d lt at = subst (λ (l : List ℕ). slice_get l k ≡ Some d) are (get_is states k d lt (sym at))

  -- it is one of them
  pub read-is : (k d : ℕ) → k < length states → d ≡ get_or states k d → Contains (states_of network place) d
  read-is k d lt at = Contains_get (states_of network place) k d (state-read k d lt at)

-- a pair of numbers below k and m, by its own number: the first
pub pair-start : (k m a b l n : ℕ) → a ≡ k → b ≡ m → l ≡ m → 2 ≤ m → n < a * b → n / l < k
pair-start k m a b l n e f h two lt =
    subst (λ (x : ℕ). n / x < k) (sym h) (div_below n m k (omega (arith, two)) (subst (λ (x : ℕ). n < x * m) e (subst (λ (y : ℕ). n < a * y) f lt)))

-- and the second
pub pair-end : (m l n : ℕ) → l ≡ m → 2 ≤ m → n % l < m
pair-end m l n h two = subst (λ (x : ℕ). n % x < m) (sym h) (mod_below n m (omega (arith, two)))
