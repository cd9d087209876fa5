-- The turns of a walk: each is the one turn between two vertices, so what a walk pays at them is one list.
use Rattle.std.proofs.Common.{◌≡◌, ℕ, zero, suc, ◌+◌, ◌<◌, Bool, true, false, cond, List, [], ◌∷◌, Option, Some, arith, ap, ap₂, length, map, refl, subst, sym}
use Rattle.std.specs.Prelude.{◌==◌, ◌&&◌}
use Rattle.std.specs.List.{AllZip, find, slice_get, zip}
use Rattle.std.specs.Option.{option_map_or}
use Rattle.std.proofs.lemmas.Bool.Decides.{nat_tests}
use Rattle.std.proofs.lemmas.Option.{same_Some}
use Rattle.search_graph.specs.declared.costs.WeightDurLen.{WeightDurLen}
use Rattle.search_graph.specs.RoadCosts.{road_cost_ops}
use Rattle.road_turns.specs.Turn.{IsSimple}
use Rattle.road_places.specs.Paid.{AreTurnsAlong, IsTurnCosting, steps_of}
use Rattle.metric_make.specs.RoadMetric.{RoadMetric}
use Rattle.route_steps.specs.Turnings.{turn_paid, turns_paid}

-- whether a turn that costs something is the one from d onto e
abbrev is_from : ℕ → ℕ → (ℕ × ℕ) × WeightDurLen → Bool
is_from d e x = x.0.0 == d && x.0.1 == e

is_from-itself : (d e : ℕ) (a : WeightDurLen) → is_from d e ((d, e), a) ≡ true
is_from-itself d e a = grind (arith, nat_tests)

is_from-pair : (d e : ℕ) (t : ℕ × ℕ) (a : WeightDurLen) → is_from d e (t, a) ≡ true → t ≡ (d, e)
is_from-pair d e t a h =
    let first : t.0 ≡ d = grind (arith, nat_tests) in
    let second : t.1 ≡ e = grind (arith, nat_tests) in
    ap₂ {C = ℕ × ℕ} (λ x y. (x, y)) first second

simple-rest : (t : ℕ × ℕ) (turns : List (ℕ × ℕ)) → IsSimple (t ∷ turns) → IsSimple turns
simple-rest t turns h = record { same = λ i j d e at at2. let more : suc i ≡ suc j = h.same (suc i) (suc j) d e at at2 in omega arith }

-- a turn is found beside its cost
skipped : (d e : ℕ) (x : (ℕ × ℕ) × WeightDurLen) (rest : List ((ℕ × ℕ) × WeightDurLen)) (y : (ℕ × ℕ) × WeightDurLen) (b : Bool) → is_from d e x ≡ b → (b ≡ true → x ≡ y) → find (is_from d e) rest ≡ Some y
    → cond b (Some x) (find (is_from d e) rest) ≡ Some y
skipped d e x rest y true is same later = ap Some (same refl)
skipped d e x rest y false is same later = later

found : (turns : List (ℕ × ℕ)) (costs : List WeightDurLen) (i d e : ℕ) (a : WeightDurLen) → IsSimple turns → slice_get turns i ≡ Some (d, e) → slice_get costs i ≡ Some a
    → find (is_from d e) (zip turns costs) ≡ Some ((d, e), a)
found [] costs i d e a simple at cost = cc
found (t ∷ turns) [] i d e a simple at cost = cc
found (t ∷ turns) (c ∷ costs) zero d e a simple at cost =
    let first : t ≡ (d, e) = same_Some t (d, e) at in
    let second : c ≡ a = same_Some c a cost in
    subst (λ (x : (ℕ × ℕ) × WeightDurLen). cond (is_from d e x) (Some x) (find (is_from d e) (zip turns costs)) ≡ Some ((d, e), a))
    (sym (ap₂ {C = (ℕ × ℕ) × WeightDurLen} (λ x y. (x, y)) first second))
    (ap (λ b. cond b (Some ((d, e), a)) (find (is_from d e) (zip turns costs))) (is_from-itself d e a))
found (t ∷ turns) (c ∷ costs) (suc i) d e a simple at cost =
    skipped d e (t, c) (zip turns costs) ((d, e), a) (is_from d e (t, c)) refl
    (λ is. let none : zero ≡ suc i = simple.same zero (suc i) d e (ap Some (is_from-pair d e t c is)) at in absurd (omega arith))
    (found turns costs i d e a (simple-rest t turns simple) at cost)

module _ (road : RoadMetric) (simple : IsSimple road.network.turns) where
  -- what the turn between two vertices costs
  pub turn_paid-costing : (turn : ℕ × ℕ) (cost : WeightDurLen) → IsTurnCosting road turn cost → turn_paid road turn ≡ cost
  turn_paid-costing turn cost h =
      ap (λ (o : Option ((ℕ × ℕ) × WeightDurLen)). option_map_or (λ x. x.1) o road_cost_ops.zero) (found road.network.turns road.weights.arc h.0 turn.0 turn.1 cost simple h.1 h.2)

  costs-same : (turns : List (ℕ × ℕ)) (costs : List WeightDurLen) → AllZip (IsTurnCosting road) turns costs → costs ≡ map (turn_paid road) turns
  costs-same [] [] h = refl
  costs-same [] (c ∷ costs) h = absurd h
  costs-same (t ∷ turns) [] h = absurd h
  costs-same (t ∷ turns) (c ∷ costs) h = ap₂ (λ x l. x ∷ l) (sym (turn_paid-costing t c h.0)) (costs-same turns costs h.1)

  -- what a walk pays at its turns is one list
  pub turns_paid-along : (walk : List ℕ) (costs : List WeightDurLen) → AreTurnsAlong road walk costs → costs ≡ turns_paid road walk
  turns_paid-along walk costs h = costs-same (steps_of walk) costs h

count-behind : (v : ℕ) (walk : List ℕ) → length (zip (v ∷ walk) walk) ≡ length walk
count-behind v [] = refl
count-behind v (u ∷ walk) = ap suc (count-behind u walk)

-- one turn less than there are vertices
pub length-steps_of : (walk : List ℕ) → 0 < length walk → length (steps_of walk) + 1 ≡ length walk
length-steps_of [] h = absurd (omega arith)
length-steps_of (v ∷ walk) h = omega (arith, count-behind v walk)
