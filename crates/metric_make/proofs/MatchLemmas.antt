-- Which rows the vertices and turns so far have matched.
use Rattle.std.proofs.Common.{◌≡◌, ℕ, ◌+◌, Bool, true, false, List, [], ◌∷◌, ◌++◌, take, Option, Some, sym, ap, ◌∙◌}
use Rattle.std.specs.Prelude.{ℤ, ◌&&◌, ◌||◌, option_map}
use Rattle.std.specs.List.{slice_get}
use Rattle.std.specs.Ordering.{int_eq}
use Rattle.std.proofs.lemmas.Bool.{and_from}
use Rattle.std.proofs.lemmas.List.Folds.{list_any-append, list_any_at, list_any_more}
use Rattle.std.proofs.lemmas.Option.{get_or_from_slice_get, same_Some, slice_get_within}
use Rattle.road_segments.specs.Vertex.{Vertex}
use Rattle.metric_make.specs.LastRows.{AreTold, Entries, pair_eq, triple_eq}
use Rattle.metric_make.specs.TrafficRows.{goes_over, is_turn_over, is_way}
use Rattle.metric_make.proofs.LastRowLemmas.{or-false, pair_eq-itself, pair_eq-same, told-same, triple_eq-itself, triple_eq-same}
use Rattle.traffic_files.specs.declared.rows.SpeedRow.{SpeedRow}
use Rattle.traffic_files.specs.declared.rows.TurnRow.{TurnRow}

-- a field of a vertex that was read
pub field-at : {A : Type 0} (field : Vertex → A) (vs : List Vertex) (v : ℕ) (x : Vertex) (value : A) → slice_get vs v ≡ Some x → option_map field (slice_get vs v) ≡ Some value → field x ≡ value
field-at {A} field vs v x value at read = same_Some (field x) value (sym (ap (option_map field) at) ∙ read)

-- the nodes that a row of a speeds file is for
abbrev pub nodes_of : SpeedRow → ℤ × ℤ
nodes_of row = (row.from, row.to)

module _ (vs : List Vertex) (v : ℕ) (x : Vertex) (at : slice_get vs v ≡ Some x) where
  abbrev goes : ℤ → ℤ → Vertex → Bool
  goes tail head y = y.permitted && (int_eq y.tail tail && int_eq y.head head)

  -- one vertex more
  is_way-more : (tail head : ℤ) → is_way (take (v + 1) vs) tail head ≡ (is_way (take v vs) tail head || goes tail head x)
  is_way-more tail head =
      list_any_more (goes tail head) vs v x (slice_get_within vs v x at) ∙ ap (λ (y : Vertex). is_way (take v vs) tail head || goes tail head y) (get_or_from_slice_get vs v x x at)

  -- one that is permitted is one way more, between its nodes
  pub is_way-permitted : x.permitted ≡ true → (tail head : ℤ) → x.tail ≡ tail → x.head ≡ head → (q : ℤ × ℤ) → is_way (take (v + 1) vs) q.0 q.1 ≡ (is_way (take v vs) q.0 q.1 || pair_eq (tail, head) q)
  is_way-permitted permitted tail head from to q =
      let was = is_way (take v vs) q.0 q.1 in
      is_way-more q.0 q.1
      ∙ ap (λ (b : Bool). was || (b && (int_eq x.tail q.0 && int_eq x.head q.1))) permitted
      ∙ ap (λ (z : ℤ). was || (int_eq z q.0 && int_eq x.head q.1)) from
      ∙ ap (λ (z : ℤ). was || (int_eq tail q.0 && int_eq z q.1)) to

  -- which is one among all
  pub way-permitted : x.permitted ≡ true → is_way vs x.tail x.head ≡ true
  way-permitted permitted =
      let there = ap (goes x.tail x.head) (get_or_from_slice_get vs v x x at) ∙ and_from x.permitted (pair_eq (x.tail, x.head) (x.tail, x.head)) permitted (pair_eq-itself (x.tail, x.head)) in
      list_any_at (goes x.tail x.head) vs v x (slice_get_within vs v x at) there

  -- one that is not permitted is none
  pub is_way-closed : x.permitted ≡ false → (q : ℤ × ℤ) → is_way (take (v + 1) vs) q.0 q.1 ≡ is_way (take v vs) q.0 q.1
  is_way-closed closed q =
      let was = is_way (take v vs) q.0 q.1 in
      is_way-more q.0 q.1 ∙ ap (λ (b : Bool). was || (b && (int_eq x.tail q.0 && int_eq x.head q.1))) closed ∙ or-false was

  -- one that is permitted matches the rows for its nodes
  pub matched-permitted : (rows : List SpeedRow) (tail head : ℤ) (entries : Entries (ℤ × ℤ)) (n : ℕ) → x.permitted ≡ true → x.tail ≡ tail → x.head ≡ head
      → AreTold pair_eq nodes_of rows (λ q. is_way (take v vs) q.0 q.1 || pair_eq (tail, head) q) entries n → AreTold pair_eq nodes_of rows (λ q. is_way (take (v + 1) vs) q.0 q.1) entries n
  matched-permitted rows tail head entries n permitted from to told =
      told-same pair_eq pair_eq-same pair_eq-itself nodes_of rows entries n (λ q. is_way (take v vs) q.0 q.1 || pair_eq (tail, head) q) (λ q. is_way (take (v + 1) vs) q.0 q.1)
      (λ q. sym (is_way-permitted permitted tail head from to q)) told

  -- one that is not permitted matches none
  pub matched-closed : (rows : List SpeedRow) (entries : Entries (ℤ × ℤ)) (n : ℕ) → x.permitted ≡ false
      → AreTold pair_eq nodes_of rows (λ q. is_way (take v vs) q.0 q.1) entries n → AreTold pair_eq nodes_of rows (λ q. is_way (take (v + 1) vs) q.0 q.1) entries n
  matched-closed rows entries n closed told =
      told-same pair_eq pair_eq-same pair_eq-itself nodes_of rows entries n (λ q. is_way (take v vs) q.0 q.1) (λ q. is_way (take (v + 1) vs) q.0 q.1) (λ q. sym (is_way-closed closed q)) told

-- one turn more
pub is_turn_over-more : (vs : List Vertex) (before : List (ℕ × ℕ)) (turn : ℕ × ℕ) (d e : Vertex) (from via to : ℤ) → slice_get vs turn.0 ≡ Some d → slice_get vs turn.1 ≡ Some e
    → is_turn_over vs (before ++ turn ∷ []) from via to ≡ (is_turn_over vs before from via to || triple_eq (d.tail, d.head, e.head) (from, via, to))
is_turn_over-more vs before turn d e from via to at next =
    let was = is_turn_over vs before from via to in
    list_any-append {X = ℕ × ℕ} (λ t. goes_over from via to (slice_get vs t.0) (slice_get vs t.1)) before (turn ∷ [])
    ∙ ap (λ (b : Bool). was || b) (or-false (goes_over from via to (slice_get vs turn.0) (slice_get vs turn.1)))
    ∙ ap (λ (o : Option Vertex). was || goes_over from via to o (slice_get vs turn.1)) at
    ∙ ap (λ (o : Option Vertex). was || goes_over from via to (Some d) o) next

-- the nodes that a row of a turns file is for
abbrev pub nodes_over : TurnRow → ℤ × ℤ × ℤ
nodes_over row = (row.from, row.via, row.to)

-- it matches the rows for its nodes
pub matched-over : (vs : List Vertex) (before : List (ℕ × ℕ)) (turn : ℕ × ℕ) (d e : Vertex) → slice_get vs turn.0 ≡ Some d → slice_get vs turn.1 ≡ Some e
    → (rows : List TurnRow) (tail via head : ℤ) (entries : Entries (ℤ × ℤ × ℤ)) (n : ℕ) → d.tail ≡ tail → d.head ≡ via → e.head ≡ head
    → AreTold triple_eq nodes_over rows (λ q. is_turn_over vs before q.0 q.1 q.2 || triple_eq (tail, via, head) q) entries n
    → AreTold triple_eq nodes_over rows (λ q. is_turn_over vs (before ++ turn ∷ []) q.0 q.1 q.2) entries n
matched-over vs before turn d e at next rows tail via head entries n from over to told =
    told-same triple_eq triple_eq-same triple_eq-itself nodes_over rows entries n (λ q. is_turn_over vs before q.0 q.1 q.2 || triple_eq (tail, via, head) q) (λ q. is_turn_over vs (before ++ turn ∷ []) q.0 q.1 q.2) (λ q. sym (it q)) told
  where
    three : ℤ → ℤ → ℤ → ℤ × ℤ × ℤ
    three x y z = (x, y, z)

    nodes : ◌≡◌ {A = ℤ × ℤ × ℤ} (d.tail, d.head, e.head) (tail, via, head)
    nodes = ap (λ (z : ℤ). three z d.head e.head) from ∙ ap (λ (z : ℤ). three tail z e.head) over ∙ ap (λ (z : ℤ). three tail via z) to

    it : (q : ℤ × ℤ × ℤ) → is_turn_over vs (before ++ turn ∷ []) q.0 q.1 q.2 ≡ (is_turn_over vs before q.0 q.1 q.2 || triple_eq (tail, via, head) q)
    it q = is_turn_over-more vs before turn d e q.0 q.1 q.2 at next ∙ ap (λ (p : ℤ × ℤ × ℤ). is_turn_over vs before q.0 q.1 q.2 || triple_eq p q) nodes
