-- Laws of the vertices of segments: what one has, and its other direction.
use Rattle.std.proofs.Common.{◌≡◌, ℕ, ◌+◌, ◌-◌, ◌*◌, ◌/◌, ◌<◌, ◌%◌, inl, inr, List, length, Option, Some, Bool, true, false, cond, arith, sym, ap, ◌∙◌, ◌||◌}
use Rattle.std.specs.Prelude.{◌==◌}
use Rattle.std.specs.List.{slice_get}
use Rattle.std.specs.Option.{option_map, option_map_or}
use Rattle.std.proofs.lemmas.Bool.{cases_eq}
use Rattle.std.proofs.lemmas.Bool.Decides.{nat_tests}
use Rattle.std.proofs.lemmas.Option.{same_Some, slice_get_within}
use Rattle.list_lemmas.proofs.Gets.{get_some}
use Rattle.road_segments.specs.Segment.{Segment}
use Rattle.road_turns.specs.Turn.{exits}
use Rattle.road_turns.specs.TurnParts.{must_turn_back}
use Rattle.road_segments.specs.Vertex.{Vertex, against, along, opposite, vertices}
use Rattle.road_segments.specs.Laws.{length-vertices, vertices-even, vertices-odd}

-- what a vertex has, of two ways to say it
pub field-at : {A : Type 0} (f : Vertex → A) (vs : List Vertex) (v : ℕ) (x : Vertex) (t : A) → slice_get vs v ≡ Some x → option_map f (slice_get vs v) ≡ Some t → f x ≡ t
field-at f vs v x t e h = same_Some (f x) t (sym (ap (option_map f) e) ∙ h)

opposite-is : (v : ℕ) (b : Bool) → (v % 2 == 0) ≡ b → opposite v ≡ cond b (v + 1) (v - 1)
opposite-is v b e = ap (λ (c : Bool). cond c (v + 1) (v - 1)) e

-- the other direction of a vertex begins where the vertex ends
pub opposite-get : (segments : List Segment) (v : ℕ) (x : Vertex) → slice_get (vertices segments) v ≡ Some x
    → (y : Vertex) × (slice_get (vertices segments) (opposite v) ≡ Some y) × (y.tail ≡ x.head) × (y.way ≡ x.way)
opposite-get segments v x at =
    let within : v < length (vertices segments) = slice_get_within (vertices segments) v x at in
    let half : v / 2 < length segments = omega (arith, length-vertices segments) in
    let s = get_some segments (v / 2) half in
    elim (cases_eq (v % 2) 0) as (λ _. (y : Vertex) × (slice_get (vertices segments) (opposite v) ≡ Some y) × (y.tail ≡ x.head) × (y.way ≡ x.way)) [
      | inl even ↦
          let test : (v % 2 == 0) ≡ true = grind (arith, nat_tests) in
          let back : opposite v ≡ 2 * (v / 2) + 1 = opposite-is v true test ∙ omega arith in
          let same : along s.0 ≡ x = same_Some (along s.0) x (sym (vertices-even segments (v / 2) s.0 v s.1 (omega arith)) ∙ at) in
          (against s.0, vertices-odd segments (v / 2) s.0 (opposite v) s.1 back, ap (λ (z : Vertex). z.head) same, ap (λ (z : Vertex). z.way) same)
      | inr odd ↦
          let test : (v % 2 == 0) ≡ false = grind (arith, nat_tests) in
          let back : opposite v ≡ 2 * (v / 2) = opposite-is v false test ∙ omega arith in
          let same : against s.0 ≡ x = same_Some (against s.0) x (sym (vertices-odd segments (v / 2) s.0 v s.1 (omega arith)) ∙ at) in
          (along s.0, vertices-even segments (v / 2) s.0 (opposite v) s.1 back, ap (λ (z : Vertex). z.head) same, ap (λ (z : Vertex). z.way) same)
    ]

-- a vertex and the other direction of its segment
pub both-ways : (segments : List Segment) (v : ℕ) → v < 2 * length segments
    → (x : Vertex) × (y : Vertex) × (slice_get (vertices segments) v ≡ Some x) × (slice_get (vertices segments) (opposite v) ≡ Some y) × (y.tail ≡ x.head) × (y.way ≡ x.way)
both-ways segments v lt =
    let within : v < length (vertices segments) = omega (arith, length-vertices segments) in
    let x = get_some (vertices segments) v within in
    let y = opposite-get segments v x.0 x.1 in
    (x.0, y.0, x.1, y.1, y.2, y.3)

-- where the vehicle can only turn back
pub must_turn_back-at : (vs : List Vertex) (v : ℕ) (x : Vertex) → slice_get vs v ≡ Some x → must_turn_back vs v ≡ ((exits vs v == 0) || x.closed)
must_turn_back-at vs v x at = ap (λ (o : Option Vertex). (exits vs v == 0) || option_map_or (λ z. z.closed) o false) at
