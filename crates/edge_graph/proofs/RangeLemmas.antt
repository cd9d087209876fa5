-- The turns are from vertices to vertices.
use Rattle.std.proofs.Common.{ℕ, suc, ◌+◌, ◌*◌, ◌<◌, ◌≤◌, List, [], ◌∷◌, length, map, filter, All, Bool, true, false, cond, arith}
use Rattle.std.specs.List.{enumerate_from, flat_map}
use Rattle.std.proofs.lemmas.List.Elements.{All-nil, All-cons, All-append}
use Rattle.list_lemmas.proofs.Gets.{All_get}
use Rattle.search_graph.specs.Faults.{AllInRange}
use Rattle.turn_rules.specs.Rules.{Rule}
use Rattle.road_segments.specs.Segment.{Segment}
use Rattle.road_turns.specs.Turn.{is_turn, numbered, turns, turns_from}
use Rattle.road_segments.specs.Vertex.{Vertex, vertices}
use Rattle.road_segments.specs.Laws.{length-vertices}

All-tail : {X : Type 0} (P : X → Type 0) (x : X) (xs : List X) → All P (x ∷ xs) → All P xs
All-tail P x xs h = λ k d lt. h (suc k) d (omega arith)

All-filter : {X : Type 0} (P : X → Type 0) (p : X → Bool) (xs : List X) → All P xs → All P (filter p xs)
All-filter P p [] h = h
All-filter P p (x ∷ xs) h =
    elim (p x) as (λ b. All P (cond b (x ∷ filter p xs) (filter p xs))) [
      | true ↦ All-cons P x (filter p xs) (h 0 x (omega arith)) (All-filter P p xs (All-tail P x xs h))
      | false ↦ All-filter P p xs (All-tail P x xs h)
    ]

module _ (n : ℕ) where
  -- a number below n
  abbrev IsNumbered : ℕ × Vertex → Type 0
  IsNumbered e = e.0 < n

  -- two of them
  abbrev IsPair : ℕ × ℕ → Type 0
  IsPair t = (t.0 < n) × (t.1 < n)

  enumerated : (b : ℕ) (vs : List Vertex) → b + length vs ≤ n → All IsNumbered (enumerate_from b vs)
  enumerated b [] h = All-nil IsNumbered
  enumerated b (x ∷ vs) h = All-cons IsNumbered (b, x) (enumerate_from (b + 1) vs) (omega arith) (enumerated (b + 1) vs (omega arith))

  pairs : (v : ℕ) → v < n → (es : List (ℕ × Vertex)) → All IsNumbered es → All IsPair (map {A = ℕ × Vertex} {B = ℕ × ℕ} (λ e. (v, e.0)) es)
  pairs v lt [] h = All-nil IsPair
  pairs v lt (e ∷ es) h = All-cons IsPair (v, e.0) (map {A = ℕ × Vertex} {B = ℕ × ℕ} (λ e. (v, e.0)) es) (lt, h 0 e (omega arith)) (pairs v lt es (All-tail IsNumbered e es h))

  all-pairs : (vs : List Vertex) (rules : List Rule) → All IsNumbered (numbered vs) → (ds : List (ℕ × Vertex)) → All IsNumbered ds → All IsPair (flat_map (turns_from vs rules) ds)
  all-pairs vs rules all [] h = All-nil IsPair
  all-pairs vs rules all (d ∷ ds) h =
      All-append IsPair (turns_from vs rules d) (flat_map (turns_from vs rules) ds)
      (pairs d.0 (h 0 d (omega arith)) (filter (is_turn vs rules d) (numbered vs)) (All-filter IsNumbered (is_turn vs rules d) (numbered vs) all))
      (all-pairs vs rules all ds (All-tail IsNumbered d ds h))

pub turns-in_range : (segments : List Segment) (rules : List Rule) → AllInRange (2 * length segments) (turns (vertices segments) rules)
unfolding turns
turns-in_range segments rules =
    let n : ℕ = 2 * length segments in
    let all = enumerated n 0 (vertices segments) (omega (arith, length-vertices segments)) in
    λ i u v at. All_get (IsPair n) (turns (vertices segments) rules) i (u, v) (all-pairs n (vertices segments) rules all (numbered (vertices segments)) all) at
