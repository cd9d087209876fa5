-- The vertices that leave a node in the order of their bearings, and which of them may follow a vertex.
use Rattle.std.proofs.Common.{◌≡◌, ◌⊎◌, inl, inr, ℕ, ℤ, ◌+◌, ◌*◌, ◌<◌, ◌≤◌, ◌&&◌, ◌↔◌, not, Bool, true, false, cond, List, [], ◌∷◌, All, Option, None, Some, Result, Ok, Err, arith, ap, ap₂, eqb, filter, get_or, is_ok, length, map, position, refl, sym, ◌∙◌}
use Rattle.std.specs.Prelude.{option_map}
use Rattle.std.specs.List.{Contains, enumerate_from, list_any, position_from, range_with_len, slice_get}
use Rattle.std.specs.List.Sorted.{IsBinarySearchResult, IsNonDecreasing, IsNonDecreasingBy, IsStableByKey, ties}
use Rattle.std.specs.Option.{option_map_or}
use Rattle.std.specs.Ordering.{int_eq, is_lt, nat_cmp}
use Rattle.std.proofs.lemmas.Bool.{and_from, and_parts, cases_lt, eq-eqb, eqb-true, ne_eqb}
use Rattle.std.proofs.lemmas.Bool.Decides.{nat_tests}
use Rattle.std.proofs.lemmas.Iterator.Adapters.{position_from-zero}
use Rattle.std.proofs.lemmas.List.{get_or_default, length-map}
use Rattle.std.proofs.lemmas.List.Elements.{All-cons, All-nil, Contains-get_or, filter_agree}
use Rattle.std.proofs.lemmas.List.Folds.{Any-from_list_any, list_any_at, list_any_none}
use Rattle.std.proofs.lemmas.List.Sorted.{searched}
use Rattle.std.proofs.lemmas.Map.Keys.{any_passes_from_place}
use Rattle.std.proofs.lemmas.Option.{get_or_from_slice_get, same_Some, slice_get-get_or, slice_get-map, slice_get_read}
use Rattle.list_lemmas.proofs.Fronts.{map-map}
use Rattle.list_lemmas.proofs.Gets.{get_Contains}
use Rattle.search_graph.specs.Digraph.{IsArc, Leaves}
use Rattle.road_turns.specs.Departures.{vertices_from}
use Rattle.road_segments.specs.Laws.{length-vertices}
use Rattle.edge_graph.specs.GraphLaws.{arc-is-turn, turn-in-graph}
use Rattle.edge_graph.specs.NetworkView.{NetworkView, graph_of, stands, vertices_of}
use Rattle.edge_graph.specs.Sound.{IsSoundNetwork}
use Rattle.road_segments.specs.Vertex.{Vertex}
use Rattle.route_steps.specs.Turnings.{bearing_on}
use Rattle.route_steps.specs.Ways.{by_bearing, follows, place_of, way_on, ways_behind, ways_from}
use Rattle.route_steps.specs.declared.ways.Way.{Way}
use Rattle.route_steps.proofs.SortLemmas.{by_keys, filter-map, flat_map-same, map-flat_map}

-- those that leave a node, of vertices numbered from i on, are among them
from-below : (node : ℤ) (i n : ℕ) (vs : List Vertex) → i + length vs ≤ n → All (λ v. v < n) (map {A = ℕ × Vertex} {B = ℕ} (λ e. e.0) (filter (λ e. int_eq e.1.tail node) (enumerate_from i vs)))
from-below node i n [] h = All-nil (λ v. v < n)
from-below node i n (x ∷ vs) h =
    let others : List (ℕ × Vertex) = filter (λ e. int_eq e.1.tail node) (enumerate_from (i + 1) vs) in
    let rest : All (λ v. v < n) (map {A = ℕ × Vertex} {B = ℕ} (λ e. e.0) others) = from-below node (i + 1) n vs (omega (arith, h)) in
    elim (int_eq x.tail node) as (λ b. All (λ v. v < n) (map {A = ℕ × Vertex} {B = ℕ} (λ e. e.0) (cond b ((i, x) ∷ others) others))) [
      | true ↦ All-cons (λ v. v < n) i (map {A = ℕ × Vertex} {B = ℕ} (λ e. e.0) others) (omega (arith, h)) rest
      | false ↦ rest
    ]

from-count : (node : ℤ) (i : ℕ) (vs : List Vertex) → length (map {A = ℕ × Vertex} {B = ℕ} (λ e. e.0) (filter (λ e. int_eq e.1.tail node) (enumerate_from i vs))) ≤ length vs
from-count node i [] = omega arith
from-count node i (x ∷ vs) =
    let others : List (ℕ × Vertex) = filter (λ e. int_eq e.1.tail node) (enumerate_from (i + 1) vs) in
    let rest : length (map {A = ℕ × Vertex} {B = ℕ} (λ e. e.0) others) ≤ length vs = from-count node (i + 1) vs in
    elim (int_eq x.tail node) as (λ b. length (map {A = ℕ × Vertex} {B = ℕ} (λ e. e.0) (cond b ((i, x) ∷ others) others)) ≤ length (x ∷ vs)) [
      | true ↦ omega (arith, rest)
      | false ↦ omega (arith, rest)
    ]

-- the vertices that leave a node are the network's
pub vertices_from-below : (network : NetworkView) (node : ℤ) → All (λ v. v < 2 * length network.segments) (vertices_from (vertices_of network) node)
vertices_from-below network node = from-below node 0 (2 * length network.segments) (vertices_of network) (omega (arith, length-vertices network.segments))

pub length-vertices_from : (network : NetworkView) (node : ℤ) → length (vertices_from (vertices_of network) node) ≤ 2 * length network.segments
length-vertices_from network node = omega (arith, from-count node 0 (vertices_of network), length-vertices network.segments)

-- what is told of an element is told with it
pub some-told : {X Y : Type 0} (f : X → Y) (o : Option X) (y : Y) → option_map f o ≡ Some y → (x : X) × (o ≡ Some x) × (f x ≡ y)
some-told f None y e = cc
some-told f (Some x) y e = (x, refl, same_Some (f x) y e)

-- those that leave the node where vertex d ends
pub ways_behind-head : (network : NetworkView) (d : ℕ) (node : ℤ) → option_map (λ (x : Vertex). x.head) (slice_get (vertices_of network) d) ≡ Some node → ways_behind network d ≡ ways_from network node
unfolding ways_behind
ways_behind-head network d node e =
    let at = some-told (λ (x : Vertex). x.head) (slice_get (vertices_of network) d) node e in
    ap (λ (o : Option Vertex). option_map_or (λ x. ways_from network x.head) o []) at.1 ∙ ap (ways_from network) at.2

-- neither of two numbers is less than the other where they are the same
ties-same : (a b : ℕ) → not (is_lt (nat_cmp a b)) && not (is_lt (nat_cmp b a)) ≡ eqb b a
ties-same a b = grind (arith, nat_tests)

module _ (network : NetworkView) (vs : List ℕ) (ways : List Way) where
  -- vertices sorted stably by their bearings are each bearing's in turn
  pub sorted-by_bearing : IsNonDecreasingBy (λ (way : Way). way.bearing) ways → All (λ (way : Way). way.bearing < 360) ways
      → IsStableByKey (λ (way : Way). way.bearing) nat_cmp (map (way_on network) vs) ways → ways ≡ map (way_on network) (by_bearing network vs)
  sorted-by_bearing sorted below stable =
      let of_key : List Way → ℕ → List Way = λ all k. filter (λ way. eqb way.bearing k) all in
      let same : (k : ℕ) → of_key ways k ≡ map (way_on network) (filter (λ v. eqb (bearing_on network v) k) vs) = λ k.
      let way : Way = record { vertex = 0; bearing = k } in
      let tied : (x : Way) → ties (λ (a b : Way). is_lt (nat_cmp a.bearing b.bearing)) way x ≡ eqb x.bearing k = λ x. ties-same k x.bearing in
      sym (filter_agree (ties (λ (a b : Way). is_lt (nat_cmp a.bearing b.bearing)) way) (λ x. eqb x.bearing k) tied ways)
      ∙ stable way
      ∙ filter_agree (ties (λ (a b : Way). is_lt (nat_cmp a.bearing b.bearing)) way) (λ x. eqb x.bearing k) tied (map (way_on network) vs)
      ∙ filter-map (way_on network) (λ x. eqb x.bearing k) vs in
      by_keys (λ way. way.bearing) ways 360 sorted below
      ∙ flat_map-same (of_key ways) (λ k. map (way_on network) (filter (λ v. eqb (bearing_on network v) k) vs)) same (range_with_len 0 360)
      ∙ map-flat_map (way_on network) (λ k. filter (λ v. eqb (bearing_on network v) k) vs) (range_with_len 0 360)

map-same : {X Y : Type 0} (f g : X → Y) → ((x : X) → f x ≡ g x) → (xs : List X) → map f xs ≡ map g xs
map-same f g same [] = refl
map-same f g same (x ∷ xs) = ap₂ (λ y l. y ∷ l) (same x) (map-same f g same xs)

-- two tests answer alike where either passes with the other
both-ways : (a b : Bool) → (a ≡ true → b ≡ true) → (b ≡ true → a ≡ true) → a ≡ b
both-ways true b there back = sym (there refl)
both-ways false true there back = back refl
both-ways false false there back = refl

-- the vertex that a turn leads onto
abbrev pub turn_head : List (ℕ × ℕ) → ℕ → ℕ
turn_head turns i = option_map_or (λ (t : ℕ × ℕ). t.1) (slice_get turns i) 0

pub turn_head-is : (turns : List (ℕ × ℕ)) (i d e : ℕ) → slice_get turns i ≡ Some (d, e) → turn_head turns i ≡ e
turn_head-is turns i d e at = ap (λ (o : Option (ℕ × ℕ)). option_map_or (λ (t : ℕ × ℕ). t.1) o 0) at

-- and the one for which the head of an arc of the searched graph stands
abbrev pub stood_head : NetworkView → ℕ → ℕ
stood_head network i = stands network (turn_head (graph_of network).arcs i)

pub stood_head-is : (network : NetworkView) (i d q : ℕ) → IsArc (graph_of network) i d q → stood_head network i ≡ stands network q
stood_head-is network i d q at = ap (stands network) (turn_head-is (graph_of network).arcs i d q at)

module _ (network : NetworkView) (sound : IsSoundNetwork network) (d : ℕ) (ordinary : d < 2 * length network.segments) (row : List ℕ) (leaves : (i : ℕ) → Contains row i ↔ Leaves (graph_of network) i d) (v : ℕ) where
  abbrev heads : List ℕ
  heads = map (stood_head network) row

  -- what arcs from a vertex lead onto stands for what its turns do
  onto-turns : list_any (λ u. eqb u v) heads ≡ true → list_any (λ (t : ℕ × ℕ). eqb t.0 d && eqb t.1 v) network.turns ≡ true
  onto-turns any =
      let at = Any-from_list_any (λ u. eqb u v) heads any in
      let within : at.0 < length row = omega (arith, at.2, length-map {A = ℕ} {B = ℕ} row (stood_head network)) in
      let i : ℕ = get_or row at.0 0 in
      let arc = (leaves i).0 (Contains-get_or row at.0 0 within) in
      let e : ℕ = stands network arc.0 in
      let turn : slice_get network.turns i ≡ Some (d, e) = arc-is-turn network sound i d arc.0 ordinary arc.1 in
      let head : slice_get heads at.0 ≡ Some (stood_head network i) = slice_get-map (stood_head network) row at.0 ∙ ap (option_map (stood_head network)) (slice_get-get_or row at.0 0 within) in
      let same : e ≡ v = sym (stood_head-is network i d arc.0 arc.1) ∙ sym (get_or_from_slice_get heads at.0 (stood_head network i) at.1 head) ∙ at.3 ∙ eqb-true at.1 v at.4 in
      any_passes_from_place (λ (t : ℕ × ℕ). eqb t.0 d && eqb t.1 v) network.turns i (d, e) turn (and_from (eqb d d) (eqb e v) (eq-eqb d d refl) (eq-eqb e v same))

  turns-onto : list_any (λ (t : ℕ × ℕ). eqb t.0 d && eqb t.1 v) network.turns ≡ true → list_any (λ u. eqb u v) heads ≡ true
  turns-onto is =
      let at = Any-from_list_any (λ (t : ℕ × ℕ). eqb t.0 d && eqb t.1 v) network.turns is in
      let t : ℕ × ℕ = at.1 in
      let parts = and_parts (eqb t.0 d) (eqb t.1 v) at.4 in
      let there : slice_get network.turns at.0 ≡ Some t = slice_get_read network.turns (length network.turns) at.0 t refl at.2 (sym at.3) in
      let arc = turn-in-graph network sound at.0 d t.1 (there ∙ ap (λ (x : ℕ). Some (x, t.1)) (eqb-true t.0 d parts.0)) in
      let listed = get_Contains row at.0 ((leaves at.0).1 (arc.0, arc.1)) in
      let head : slice_get heads listed.0 ≡ Some (stood_head network at.0) = slice_get-map (stood_head network) row listed.0 ∙ ap (option_map (stood_head network)) listed.1 in
      any_passes_from_place (λ u. eqb u v) heads listed.0 (stood_head network at.0) head
      (eq-eqb (stood_head network at.0) v (stood_head-is network at.0 d arc.0 arc.1 ∙ arc.2 ∙ eqb-true t.1 v parts.1))

  -- and nothing else
  pub heads-found : list_any (λ u. eqb u v) heads ≡ follows network d v
  unfolding follows
  heads-found = both-ways (list_any (λ u. eqb u v) heads) (list_any (λ (t : ℕ × ℕ). eqb t.0 d && eqb t.1 v) network.turns) onto-turns turns-onto

-- a number isn't among those below it and those above it
none-between : (xs : List ℕ) (x i k : ℕ) → ((k : ℕ) → k < i → get_or xs k 0 < x) → ((k : ℕ) → i ≤ k → k < length xs → x < get_or xs k 0) → (k < i) ⊎ (i ≤ k) → k < length xs → get_or xs k 0 ≡ x → ⊥
none-between xs x i k below above (inl before) lt e = omega (arith, below k before, e)
none-between xs x i k below above (inr behind) lt e = omega (arith, above k behind lt, e)

-- a number that was sought among ascending ones is there or not
pub sought : (xs : List ℕ) (x : ℕ) (r : Result ℕ ℕ) → IsNonDecreasing xs → IsBinarySearchResult (λ y. nat_cmp y x) xs r → is_ok r ≡ list_any (λ u. eqb u x) xs
sought xs x (Ok i) rises is =
    let at = searched xs x (Ok i) is (λ i j le lt. rises i j 0 le lt) in
    sym (list_any_at (λ u. eqb u x) xs i 0 at.0 (eq-eqb (get_or xs i 0) x at.1))
sought xs x (Err i) rises is =
    let at = searched xs x (Err i) is (λ i j le lt. rises i j 0 le lt) in
    sym (list_any_none (λ u. eqb u x) xs (λ k d lt. ne_eqb (get_or xs k d) x (λ e. none-between xs x i k at.1 at.2 (cases_lt k i) lt (get_or_default xs k 0 d lt ∙ e))))

module _ (network : NetworkView) (v : ℕ) where
  position_from-ways : (i : ℕ) (vs : List ℕ) → position_from (λ (way : Way). eqb way.vertex v) i (map (way_on network) vs) ≡ position_from (λ u. eqb u v) i vs
  position_from-ways i [] = refl
  position_from-ways i (u ∷ vs) = ap (λ (o : Option ℕ). cond (eqb u v) (Some i) o) (position_from-ways (i + 1) vs)

  -- where a vertex stands among vertices with their bearings
  pub position-ways : (vs : List ℕ) → position (λ (way : Way). eqb way.vertex v) (map (way_on network) vs) ≡ place_of v vs
  position-ways vs =
      position_from-zero (λ (way : Way). eqb way.vertex v) (map (way_on network) vs) ∙ position_from-ways 0 vs ∙ sym (position_from-zero (λ u. eqb u v) vs)

-- what is told at a node, from the vertices that leave it with their bearings
module _ (network : NetworkView) (d : ℕ) (ways : List Way) (all : ways ≡ map (way_on network) (ways_behind network d)) where
  pub bearings-told : map (λ (way : Way). way.bearing) ways ≡ map (bearing_on network) (ways_behind network d)
  bearings-told = ap (map (λ (way : Way). way.bearing)) all ∙ map-map (λ (way : Way). way.bearing) (way_on network) (ways_behind network d)

  pub entries-told : (followers : List ℕ) → ((v : ℕ) → list_any (λ u. eqb u v) followers ≡ follows network d v)
      → map (λ (way : Way). list_any (λ u. eqb u way.vertex) followers) ways ≡ map (follows network d) (ways_behind network d)
  entries-told followers same =
      ap (map (λ (way : Way). list_any (λ u. eqb u way.vertex) followers)) all
      ∙ map-map (λ (way : Way). list_any (λ u. eqb u way.vertex) followers) (way_on network) (ways_behind network d)
      ∙ map-same (λ v. list_any (λ u. eqb u v) followers) (follows network d) same (ways_behind network d)

  pub place-told : (v : ℕ) → position (λ (way : Way). eqb way.vertex v) ways ≡ place_of v (ways_behind network d)
  place-told v = ap (position (λ (way : Way). eqb way.vertex v)) all ∙ position-ways network v (ways_behind network d)
