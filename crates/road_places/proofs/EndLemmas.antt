-- The lists of starts and targets have exactly those that there are.
use Rattle.std.proofs.Common.{◌≡◌, ℕ, ◌+◌, ◌*◌, inl, inr, List, [], ◌++◌, Option, Some, None, sym, subst, ap₂, arith, refl, ◌∙◌}
use Rattle.std.specs.Prelude.{Contains, IfOk, MatchOption, Result, Ok, Err}
use Rattle.std.specs.List.{slice_get}
use Rattle.std.specs.Option.{option_to_list}
use Rattle.std.proofs.lemmas.Option.{same_Some}
use Rattle.std.proofs.lemmas.List.Elements.{Contains-push, Contains-push_cases, Contains-append_left, Contains-append_right, Contains-append_cases}
use Rattle.road_base.specs.declared.segments.Place.{Place}
use Rattle.search_graph.specs.declared.costs.WeightDurLen.{WeightDurLen}
use Rattle.search_graph.specs.declared.ends.Start.{Start}
use Rattle.search_graph.specs.declared.ends.Target.{Target}
use Rattle.search_graph.specs.Digraph.{Weighting, IsOpen}
use Rattle.search_graph.specs.RoadCosts.{road_cost_ops, road_cost_laws}
use Rattle.road_places.specs.Places.{IsDirection, before, parts_along}
use Rattle.road_places.specs.Permitted.{IsStartAlong, IsTargetAlong}
use Rattle.road_places.specs.Ends.{AreAll}

-- what holds of the value of an `Ok` follows from what holds of it
pub if_ok : {T E : Type 0} {P Q : T → Type 0} (r : Result T E) → ((x : T) → P x → Q x) → IfOk r P → IfOk r Q
if_ok (Ok x) f h = f x h
if_ok (Err e) f h = h

-- of what there is at each direction of a segment, at most one
module _ {E : Type 0} (On : ℕ → E → Type 0) (only : (v : ℕ) (x y : E) → On v x → On v y → x ≡ y) (s : ℕ) where
  -- what is listed is there
  there : (v : ℕ) (o : Option E) → MatchOption o ((x : E) → ¬ On v x) (On v) → (x : E) → Contains (option_to_list o) x → On v x
  there v None h x k = absurd (omega (arith, k.1))
  there v (Some y) h x k = elim (Contains-push_cases [] y x k) [ inl q ↦ absurd (omega (arith, q.1)) | inr e ↦ subst (On v) e h ]

  -- what is there is listed
  listed-there : (v : ℕ) (o : Option E) → MatchOption o ((x : E) → ¬ On v x) (On v) → (x : E) → On v x → Contains (option_to_list o) x
  listed-there v None h x k = absurd (h x k)
  listed-there v (Some y) h x k = subst (λ z. Contains (option_to_list (Some z)) x) (only v x y k h) (Contains-push [] x)

  module _ (a b : Option E) (forward : MatchOption a ((x : E) → ¬ On (2 * s) x) (On (2 * s))) (backward : MatchOption b ((x : E) → ¬ On (2 * s + 1) x) (On (2 * s + 1))) where
    front : List E
    front = option_to_list a

    back : List E
    back = option_to_list b

    each-listed : (x : E) → Contains (front ++ back) x → (v : ℕ) × IsDirection s v × On v x
    unfolding front back
    each-listed x h = elim (Contains-append_cases front back x h) [
      | inl f ↦ (2 * s, inl refl, there (2 * s) a forward x f)
      | inr k ↦ (2 * s + 1, inr refl, there (2 * s + 1) b backward x k)
    ]

    every-listed : (x : E) → (v : ℕ) × IsDirection s v × On v x → Contains (front ++ back) x
    unfolding front back
    every-listed x (v, d, o) = elim d [
      | inl e ↦ Contains-append_left front back x (listed-there (2 * s) a forward x (subst (λ u. On u x) e o))
      | inr e ↦ Contains-append_right front back x (listed-there (2 * s + 1) b backward x (subst (λ u. On u x) e o))
    ]

    -- those of the two directions are all that there are
    pub are-all : (list : List E) → list ≡ option_to_list a ++ option_to_list b → AreAll (λ x. (v : ℕ) × IsDirection s v × On v x) list
    unfolding front back
    are-all list e = subst (AreAll (λ x. (v : ℕ) × IsDirection s v × On v x)) (sym e) (record { each = each-listed; every = every-listed })

-- an open vertex has one cost
one-cost : (w : Weighting WeightDurLen) (v : ℕ) (c d : WeightDurLen) → IsOpen w v c → IsOpen w v d → c ≡ d
one-cost w v c d h k = same_Some c d (same_Some (Some c) (Some d) (sym h ∙ k))

-- a sum of one part has one rest
one-rest : (c part x y : WeightDurLen) → c ≡ road_cost_ops.plus part x → c ≡ road_cost_ops.plus part y → x ≡ y
one-rest c part x y e f = road_cost_laws.cancels x y part tt tt tt (road_cost_laws.comm x part tt tt ∙ sym e ∙ f ∙ road_cost_laws.comm part y tt tt)

same-start : (s t : Start WeightDurLen) → s.vertex ≡ t.vertex → s.cost ≡ t.cost → s ≡ t
same-start s t e f = ap₂ {C = Start WeightDurLen} (λ v k. record { vertex = v; cost = k }) e f

same-target : (s t : Target WeightDurLen) → s.vertex ≡ t.vertex → s.cost ≡ t.cost → s ≡ t
same-target s t e f = ap₂ {C = Target WeightDurLen} (λ v k. record { vertex = v; cost = k }) e f

module _ (w : Weighting WeightDurLen) (p : Place) where
  pub one-start : (v : ℕ) (s t : Start WeightDurLen) → IsStartAlong w p v s → IsStartAlong w p v t → s ≡ t
  one-start v s t h k =
      let same = one-cost w v k.cost h.cost k.is_open h.is_open in
      same-start s t (h.is_vertex ∙ sym k.is_vertex)
      (one-rest h.cost (before h.cost (parts_along p v)) s.cost t.cost h.is_cost (subst (λ c. c ≡ road_cost_ops.plus (before c (parts_along p v)) t.cost) same k.is_cost))

  pub one-target : (v : ℕ) (s t : Target WeightDurLen) → IsTargetAlong w p v s → IsTargetAlong w p v t → s ≡ t
  one-target v s t h k =
      let same = one-cost w v k.cost h.cost k.is_open h.is_open in
      same-target s t (h.is_vertex ∙ sym k.is_vertex) (h.is_cost ∙ sym (subst (λ c. t.cost ≡ before c (parts_along p v)) same k.is_cost))

  closed : (v : ℕ) (c : WeightDurLen) → slice_get w.vertex v ≡ Some None → ¬ IsOpen w v c
  closed v c shut h = let e : ◌≡◌ {A = Option (Option WeightDurLen)} (Some None) (Some (Some c)) = sym shut ∙ h in cc

  -- at a closed vertex there is no start, at an open one there is one
  pub start-or_none : (v : ℕ) (o : Option (Start WeightDurLen)) → MatchOption o (slice_get w.vertex v ≡ Some None) (IsStartAlong w p v) → MatchOption o ((s : Start WeightDurLen) → ¬ IsStartAlong w p v s) (IsStartAlong w p v)
  start-or_none v None h = λ s k. closed v k.cost h k.is_open
  start-or_none v (Some s) h = h

  pub target-or_none : (v : ℕ) (o : Option (Target WeightDurLen)) → MatchOption o (slice_get w.vertex v ≡ Some None) (IsTargetAlong w p v) → MatchOption o ((t : Target WeightDurLen) → ¬ IsTargetAlong w p v t) (IsTargetAlong w p v)
  target-or_none v None h = λ t k. closed v k.cost h k.is_open
  target-or_none v (Some t) h = h
