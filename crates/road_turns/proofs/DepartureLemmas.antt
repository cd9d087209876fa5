-- The vertices in the order of the nodes that they leave.
use Rattle.std.proofs.Common.{◌≡◌, ℕ, zero, suc, ℤ, pos, ◌+◌, ◌-◌, ◌<◌, ◌≤◌, List, [], ◌∷◌, length, take, drop, get_or, Option, Some, None, Bool, true, false, cond, not, ◌&&◌, All, map, filter, arith, true≢false, inl, inr, refl, sym, ap, subst, ◌∙◌}
use Rattle.std.specs.Prelude.{option_map, int_lt}
use Rattle.std.specs.List.{AllWithin, Contains, slice_get}
use Rattle.std.specs.List.Sorted.{IsNonDecreasingBy, IsPartitionPoint, IsPartitionedBy, IsPermutation, IsSortedByKey, IsStableByKey, ties}
use Rattle.std.specs.Option.{option_map_or}
use Rattle.std.specs.Ordering.{int_cmp, int_eq, is_eq, is_le, is_lt, ordering_index}
use Rattle.std.specs.declared.cmp.Ordering.{Ordering}
use Rattle.std.specs.declared.cmp.Ordering.TheVariants.{Less, Equal, Greater}
use Rattle.std.proofs.lemmas.Cmp.{int_cmp_total}
use Rattle.std.proofs.lemmas.List.{get_or-map, length-map}
use Rattle.std.proofs.lemmas.List.Elements.{All-head, All-tail, filter_agree}
use Rattle.std.proofs.lemmas.List.FromFn.{get_or-enumerate_from, length-enumerate_from}
use Rattle.std.proofs.lemmas.List.Sorted.{All-permutation, Contains-permutation, length_permutation, searchable_from_sorted}
use Rattle.std.proofs.lemmas.Bool.{cases_lt}
use Rattle.std.proofs.lemmas.Option.{get_or_from_slice_get, same_Some, slice_get-get_or, slice_get-map, slice_get_past, slice_get_within}
use Rattle.list_lemmas.proofs.Fronts.{map-map}
use Rattle.list_lemmas.proofs.Gets.{Contains_get, get_Contains, get_is, get_some}
use Rattle.road_turns.specs.DepartureParts.{AreDepartures, IsPlace, departures, tail_cmp}
use Rattle.road_turns.specs.Departures.{vertices_from}
use Rattle.road_turns.specs.Turn.{numbered}
use Rattle.road_segments.specs.Vertex.{Vertex}
use Rattle.road_turns.specs.declared.departures.Departure.{Departure}

-- a filter of a mapped list
pub filter-map : {X Y : Type 0} (p : Y → Bool) (f : X → Y) (xs : List X) → filter p (map f xs) ≡ map f (filter (λ x. p (f x)) xs)
filter-map p f [] = refl
filter-map {X} {Y} p f (x ∷ xs) = ap (λ (ys : List Y). cond (p (f x)) (f x ∷ ys) ys) (filter-map p f xs) ∙ onto (p (f x))
  where
    onto : (b : Bool) → cond b (f x ∷ map f (filter (λ z. p (f z)) xs)) (map f (filter (λ z. p (f z)) xs)) ≡ map f (cond b (x ∷ filter (λ z. p (f z)) xs) (filter (λ z. p (f z)) xs))
    onto true = refl
    onto false = refl

-- two tests that agree on the elements of a list
filter-same : {X : Type 0} (p q : X → Bool) (xs : List X) → All (λ x. p x ≡ q x) xs → filter p xs ≡ filter q xs
filter-same p q [] all = refl
filter-same {X} p q (x ∷ xs) all =
    ap (λ (b : Bool). cond b (x ∷ filter p xs) (filter p xs)) (All-head (λ (y : X). p y ≡ q y) x xs all)
    ∙ ap (λ (ys : List X). cond (q x) (x ∷ ys) ys) (filter-same p q xs (All-tail (λ (y : X). p y ≡ q y) x xs all))

module _ {X : Type 0} (p : X → Bool) where
  -- where exactly the elements of one window pass a test, a filter is this window
  filter-window : (xs : List X) (i n : ℕ) → i + n ≤ length xs → AllWithin (λ x. p x ≡ false) xs 0 i → AllWithin (λ x. p x ≡ true) xs i (i + n)
      → AllWithin (λ x. p x ≡ false) xs (i + n) (length xs) → filter p xs ≡ take n (drop i xs)
  filter-window [] zero zero le before within behind = refl
  filter-window [] zero (suc n) le before within behind = absurd (omega arith)
  filter-window [] (suc i) n le before within behind = absurd (omega arith)
  filter-window (x ∷ xs) zero zero le before within behind =
      ap (λ (b : Bool). cond b (x ∷ filter p xs) (filter p xs)) (behind 0 x (omega arith) (omega arith))
      ∙ filter-window xs 0 0 (omega arith) (λ k d a b. absurd (omega arith)) (λ k d a b. absurd (omega arith)) (λ k d a b. behind (suc k) d (omega arith) (omega arith))
  filter-window (x ∷ xs) zero (suc n) le before within behind =
      ap (λ (b : Bool). cond b (x ∷ filter p xs) (filter p xs)) (within 0 x (omega arith) (omega arith))
      ∙ ap (λ (ys : List X). x ∷ ys)
      (filter-window xs 0 n (omega arith) (λ k d a b. absurd (omega arith)) (λ k d a b. within (suc k) d (omega arith) (omega arith)) (λ k d a b. behind (suc k) d (omega arith) (omega arith)))
  filter-window (x ∷ xs) (suc i) n le before within behind =
      ap (λ (b : Bool). cond b (x ∷ filter p xs) (filter p xs)) (before 0 x (omega arith) (omega arith))
      ∙ filter-window xs i n (omega arith) (λ k d a b. before (suc k) d (omega arith) (omega arith)) (λ k d a b. within (suc k) d (omega arith) (omega arith)) (λ k d a b. behind (suc k) d (omega arith) (omega arith))

-- the place of a comparison among `Less`, `Equal` and `Greater`
pub lt-lower : (a b : Ordering) → ordering_index a ≤ ordering_index b → is_lt b ≡ true → is_lt a ≡ true
lt-lower Less b le h = refl
lt-lower Equal Less le h = absurd (omega arith)
lt-lower Equal Equal le h = h
lt-lower Equal Greater le h = h
lt-lower Greater Less le h = absurd (omega arith)
lt-lower Greater Equal le h = h
lt-lower Greater Greater le h = h

pub le-lower : (a b : Ordering) → ordering_index a ≤ ordering_index b → is_le b ≡ true → is_le a ≡ true
le-lower Less b le h = refl
le-lower Equal b le h = refl
le-lower Greater Less le h = absurd (omega arith)
le-lower Greater Equal le h = absurd (omega arith)
le-lower Greater Greater le h = h

lt-not_eq : (a : Ordering) → is_lt a ≡ true → is_eq a ≡ false
lt-not_eq Less h = refl
lt-not_eq Equal h = sym h
lt-not_eq Greater h = refl

not_le-not_eq : (a : Ordering) → is_le a ≡ false → is_eq a ≡ false
not_le-not_eq Less h = refl
not_le-not_eq Equal h = h
not_le-not_eq Greater h = refl

between-eq : (a : Ordering) → is_lt a ≡ false → is_le a ≡ true → is_eq a ≡ true
between-eq Less low up = sym low
between-eq Equal low up = refl
between-eq Greater low up = up

lt-le : (a : Ordering) → is_lt a ≡ true → is_le a ≡ true
lt-le Less h = refl
lt-le Equal h = refl
lt-le Greater h = h

-- neither of two numbers is below the other where they are equal
ties-eq : (a b : ℤ) → (not (is_lt (int_cmp a b)) && not (is_lt (int_cmp b a))) ≡ int_eq b a
ties-eq a b = by (int_lt a b) (int_lt b a)
  where
    by : (s t : Bool) → (not (is_lt (cond s Less (cond t Greater Equal))) && not (is_lt (cond t Less (cond s Greater Equal)))) ≡ is_eq (cond t Less (cond s Greater Equal))
    by true true = refl
    by true false = refl
    by false true = refl
    by false false = refl

-- the departure of a vertex
pub departure-at : (vs : List Vertex) (v : ℕ) (x : Vertex) → slice_get vs v ≡ Some x → slice_get (departures vs) v ≡ Some (record { node = x.tail; vertex = v })
departure-at vs v x at =
    let within : v < length vs = slice_get_within vs v x at in
    let from_zero : 0 + v ≡ v = omega arith in
    let number : slice_get (numbered vs) v ≡ Some (v, x) =
    slice_get-get_or (numbered vs) v (v, x) (omega (arith, within, length-enumerate_from 0 vs))
    ∙ ap Some (get_or-enumerate_from 0 vs v (v, x) within ∙ ap (λ (n : ℕ). (n, get_or vs v x)) from_zero ∙ ap (λ (y : Vertex). (v, y)) (get_or_from_slice_get vs v x x at)) in
    slice_get-map (λ (e : ℕ × Vertex). record { node = e.1.tail; vertex = e.0 }) (numbered vs) v ∙ ap (option_map (λ (e : ℕ × Vertex). record { node = e.1.tail; vertex = e.0 })) number

-- what is known of the node that vertex v leaves
pub tail_cmp-vertex : (vs : List Vertex) (node : ℤ) (v : ℕ) (t : ℤ) → option_map (λ x. x.tail) (slice_get vs v) ≡ Some t → tail_cmp vs node v ≡ int_cmp t node
tail_cmp-vertex vs node v t is = of (slice_get vs v) is
  where
    of : (o : Option Vertex) → option_map (λ x. x.tail) o ≡ Some t → option_map_or (λ x. int_cmp x.tail node) o Greater ≡ int_cmp t node
    of None h = cc
    of (Some x) h = ap (λ (u : ℤ). int_cmp u node) (same_Some x.tail t h)

pub tail_cmp-none : (vs : List Vertex) (node : ℤ) (v : ℕ) → length vs ≤ v → tail_cmp vs node v ≡ Greater
tail_cmp-none vs node v past = ap (λ (o : Option Vertex). option_map_or (λ x. int_cmp x.tail node) o Greater) (slice_get_past vs v past)

-- the departure's vertex leaves its node
abbrev IsDeparture : List Vertex → Departure → Type 0
IsDeparture vs d = option_map (λ x. x.tail) (slice_get vs d.vertex) ≡ Some d.node

departure-within : (vs : List Vertex) (d : Departure) → IsDeparture vs d → d.vertex < length vs
departure-within vs d is =
    elim (cases_lt d.vertex (length vs)) [
      | inl lt ↦ lt
      | inr past ↦ let none : None ≡ Some d.node = sym (ap (option_map (λ (x : Vertex). x.tail)) (slice_get_past vs d.vertex past)) ∙ is in absurd (cc)
    ]

pub length-departures : (vs : List Vertex) → length (departures vs) ≡ length vs
length-departures vs = length-map (numbered vs) (λ (e : ℕ × Vertex). record { node = e.1.tail; vertex = e.0 }) ∙ length-enumerate_from 0 vs

are-departures : (vs : List Vertex) → All (IsDeparture vs) (departures vs)
are-departures vs i d lt =
    let within : i < length vs = omega (arith, lt, length-departures vs) in
    let x = get_some vs i within in
    subst (IsDeparture vs) (sym (get_or_from_slice_get (departures vs) i (record { node = x.0.tail; vertex = i }) d (departure-at vs i x.0 x.1))) (ap (option_map (λ (y : Vertex). y.tail)) x.1)

-- the vertices of departures
abbrev pub vertices_in : List Departure → List ℕ
vertices_in ds = map (λ d. d.vertex) ds

pub vertex-at : (ds : List Departure) (i : ℕ) (d : Departure) → i < length ds → d ≡ get_or ds i d → slice_get (vertices_in ds) i ≡ Some d.vertex
vertex-at ds i d lt is = slice_get-map (λ (e : Departure). e.vertex) ds i ∙ ap (option_map (λ (e : Departure). e.vertex)) (get_is ds i d lt (sym is))

module _ (vs : List Vertex) (ds : List Departure) (same : IsPermutation (departures vs) ds) (sorted : IsSortedByKey (λ (d : Departure). d.node) int_cmp ds)
    (stable : IsStableByKey (λ (d : Departure). d.node) int_cmp (departures vs) ds) where
  all-departures : All (IsDeparture vs) ds
  all-departures = All-permutation (IsDeparture vs) (departures vs) ds same (are-departures vs)

  cmp-at : (node : ℤ) (i v : ℕ) (d : Departure) → i < length ds → tail_cmp vs node (get_or (vertices_in ds) i v) ≡ int_cmp (get_or ds i d).node node
  cmp-at node i v d lt =
      ap (tail_cmp vs node) (get_or-map (λ (e : Departure). e.vertex) ds i d v lt) ∙ tail_cmp-vertex vs node (get_or ds i d).vertex (get_or ds i d).node (all-departures i d lt)

  rise-sorted : (node : ℤ) → IsNonDecreasingBy (λ v. ordering_index (tail_cmp vs node v)) (vertices_in ds)
  rise-sorted node i j v le lt =
      let none : Departure = record { node = pos 0; vertex = 0 } in
      let within : j < length ds = omega (arith, lt, length-map ds (λ (e : Departure). e.vertex)) in
      let before : i < length ds = omega (arith, le, within) in
      let rises = searchable_from_sorted int_cmp_total (λ (d : Departure). d.node) ds node sorted i j none le within in
      omega (arith, rises, ap ordering_index (cmp-at node i v none before), ap ordering_index (cmp-at node j v none within))

  each-sorted : (node : ℤ) → filter (λ v. is_eq (tail_cmp vs node v)) (vertices_in ds) ≡ vertices_from vs node
  each-sorted node =
      let vertex : Departure → ℕ = λ d. d.vertex in
      let make : ℕ × Vertex → Departure = λ e. record { node = e.1.tail; vertex = e.0 } in
      let at : Departure → Bool = λ d. int_eq d.node node in
      let lt : Departure → Departure → Bool = λ d e. is_lt (int_cmp d.node e.node) in
      let tied : (d : Departure) → ties lt (record { node = node; vertex = 0 }) d ≡ at d = λ d. ties-eq node d.node in
      let first = filter-map (λ v. is_eq (tail_cmp vs node v)) vertex ds in
      let second = filter-same (λ (d : Departure). is_eq (tail_cmp vs node d.vertex)) at ds (λ i d l. ap is_eq (tail_cmp-vertex vs node (get_or ds i d).vertex (get_or ds i d).node (all-departures i d l))) in
      let third = sym (filter_agree (ties lt (record { node = node; vertex = 0 })) at tied ds) ∙ stable (record { node = node; vertex = 0 }) ∙ filter_agree (ties lt (record { node = node; vertex = 0 })) at tied (departures vs) in
      let fourth = filter-map at make (numbered vs) in
      first ∙ ap (map vertex) (second ∙ third ∙ fourth) ∙ map-map vertex make (filter (λ (e : ℕ × Vertex). int_eq e.1.tail node) (numbered vs))

  long-sorted : length (vertices_in ds) ≡ length vs
  long-sorted = length-map ds (λ (d : Departure). d.vertex) ∙ length_permutation (departures vs) ds same ∙ length-departures vs

  within-sorted : All (λ v. v < length vs) (vertices_in ds)
  within-sorted i v lt =
      let none : Departure = record { node = pos 0; vertex = 0 } in
      let before : i < length ds = omega (arith, lt, length-map ds (λ (e : Departure). e.vertex)) in
      subst (λ (n : ℕ). n < length vs) (sym (get_or-map (λ (e : Departure). e.vertex) ds i none v before)) (departure-within vs (get_or ds i none) (all-departures i none before))

  every-sorted : (v : ℕ) → v < length vs → Contains (vertices_in ds) v
  every-sorted v lt =
      let x = get_some vs v lt in
      let departure : Departure = record { node = x.0.tail; vertex = v } in
      let place = get_Contains ds departure (Contains-permutation (departures vs) ds departure same (Contains_get (departures vs) v departure (departure-at vs v x.0 x.1))) in
      Contains_get (vertices_in ds) place.0 v (slice_get-map (λ (e : Departure). e.vertex) ds place.0 ∙ ap (option_map (λ (e : Departure). e.vertex)) place.1)

  pub AreDepartures-sorted : AreDepartures vs (vertices_in ds)
  AreDepartures-sorted = record { as_many = long-sorted; within = within-sorted; every = every-sorted; rise = rise-sorted; each = each-sorted }

module _ (vs : List Vertex) (order : List ℕ) (are : AreDepartures vs order) (node : ℤ) where
  pub parted-below : IsPartitionedBy (λ v. is_lt (tail_cmp vs node v)) order
  parted-below i j d le lt h = lt-lower (tail_cmp vs node (get_or order i d)) (tail_cmp vs node (get_or order j d)) (are.rise node i j d le lt) h

  pub parted-up_to : IsPartitionedBy (λ v. is_le (tail_cmp vs node v)) order
  parted-up_to i j d le lt h = le-lower (tail_cmp vs node (get_or order i d)) (tail_cmp vs node (get_or order j d)) (are.rise node i j d le lt) h

  module _ (first end : ℕ) (below : IsPartitionPoint (λ v. is_lt (tail_cmp vs node v) ≡ true) (λ v. is_lt (tail_cmp vs node v) ≡ false) order first)
      (up_to : IsPartitionPoint (λ v. is_le (tail_cmp vs node v) ≡ true) (λ v. is_le (tail_cmp vs node v) ≡ false) order end) (within : first ≤ length order) (within2 : end ≤ length order) where
    not-after : end < first → ⊥
    not-after lt =
        let side = tail_cmp vs node (get_or order end 0) in
        let is : is_le side ≡ true = lt-le side (below.0 end 0 (omega arith) lt) in
        let isnt : is_le side ≡ false = up_to.1 end 0 (omega arith) (omega (arith, lt, within)) in
        true≢false (sym is ∙ isnt)

    first-before : first ≤ end
    first-before = elim (cases_lt end first) [ inl lt ↦ absurd (not-after lt) | inr ge ↦ ge ]

    -- the vertices between the two places are those that leave the node
    between-are : take (end - first) (drop first order) ≡ vertices_from vs node
    between-are =
        let n : ℕ = end - first in
        let is : first + n ≡ end = omega (arith, first-before) in
        let p : ℕ → Bool = λ v. is_eq (tail_cmp vs node v) in
        sym (filter-window p order first n (omega (arith, is, within2)) (λ k d a b. lt-not_eq (tail_cmp vs node (get_or order k d)) (below.0 k d a b))
        (λ k d a b. between-eq (tail_cmp vs node (get_or order k d)) (below.1 k d a (omega (arith, b, is, within2))) (up_to.0 k d (omega arith) (omega (arith, b, is))))
        (λ k d a b. not_le-not_eq (tail_cmp vs node (get_or order k d)) (up_to.1 k d (omega (arith, a, is)) b))) ∙ are.each node

    pub IsPlace-found : IsPlace vs order node (first, end)
    IsPlace-found = record { ordered = first-before; within = within2; between = between-are }
