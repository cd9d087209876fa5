-- Over the parts what a least chain pays is small, though one chain may meet a part many times: it is what a chain over the
-- whole pays that meets no vertex twice.
use Rattle.std.proofs.Common.{◌≡◌, ℕ, ◌+◌, ◌*◌, ◌^◌, ◌<◌, ◌≤◌, ◌⊎◌, inl, inr, true, List, [], ◌∷◌, ◌++◌, length, refl, sym, ◌∙◌, ap, subst, arith}
use Rattle.std.specs.List.{AllByRecursion, list_any}
use Rattle.std.proofs.Math.Dec.{eqb}
use Rattle.std.proofs.Math.Nat.{mul-le-mul_right}
use Rattle.std.proofs.lemmas.Bool.Decides.{eqb_tells}
use Rattle.std.proofs.lemmas.Map.Keys.{IsDistinct-tail}
use Rattle.std.proofs.lemmas.Map.Steps.{length-le_from_distinct_below}
use Rattle.search_graph.specs.Costs.{CostOps, CostLaws, NoDearer}
use Rattle.search_graph.specs.Walks.{Chain, Paying}
use Rattle.search_graph.specs.OrderLaws.{le_trans, same_from_le, plus_le_back}
use Rattle.search_graph.specs.ChainLaws.{Chain-valid, Chain-push, Chain-map}
use Rattle.search_graph.specs.ChainLaws.{Chain-simple, Chain-units}
use Rattle.step_search.specs.Spaces.{Space, StepBy, Path, IsSpace}
use Rattle.cut_walks.specs.Cut.{Cut, IsCut, IsSmall, RunHop, OverHop, Passes, MayBegin, MayEnd, IsOver}
use Rattle.cut_walks.specs.Cutting.{over_valid, goes_from_pass, pass_from_goes}

module _ {C : Type 0} (S : ℕ → ℕ → C → C → Type 0) where
  -- a chain is nothing, or has a last step
  pub Chain-ends : (u z : ℕ) (c d : C) (vs : List ℕ) → Chain S u c vs z d →
      ((z ≡ u) × (d ≡ c) × (vs ≡ [])) ⊎ ((ys : List ℕ) × (y : ℕ) × (e : C) × Chain S u c ys y e × S y z e d × (vs ≡ ys ++ z ∷ []))
  Chain-ends u z c d [] h = inl (h.0, h.1, refl)
  Chain-ends u z c d (v ∷ vs) h = elim (Chain-ends v z h.0 d vs h.2) [
    | inl p ↦
        let step : S u z c d = subst (λ (x : ℕ). S u x c d) (sym p.0) (subst (λ x. S u v c x) (sym p.1) h.1) in
        let rest : v ∷ vs ≡ v ∷ [] = ap (λ (x : List ℕ). v ∷ x) p.2 in
        inr ([], u, c, (refl, refl), step, rest ∙ ap (λ (x : ℕ). x ∷ []) (sym p.0))
    | inr q ↦ inr (v ∷ q.0, q.1, q.2, (h.0, h.1, q.3), q.4, ap (λ (x : List ℕ). v ∷ x) q.5)
  ]

below_all : (n : ℕ) (ks : List ℕ) → AllByRecursion (λ y. y < n) ks → (q : ℕ) → list_any (eqb q) ks ≡ true → q < n
below_all n [] h q e = cc
below_all n (x ∷ ks) h q e = elim (eqb_tells q x) [
  | inl p ↦ omega (arith, p.1, h.0)
  | inr p ↦ below_all n ks h.1 q (rw p.0 at e)
]

module _ {C : Type 0} {ops : CostOps C} (laws : CostLaws ops) {Hop : ℕ → ℕ → C → Type 0} (n : ℕ) (heads : (u v : ℕ) (s : C) → Hop u v s → v < n) (units : (u v : ℕ) (s : C) → Hop u v s → ops.units s 2) where
  chain_below : (u z : ℕ) (c d : C) (vs : List ℕ) → Chain (Paying ops Hop) u c vs z d → AllByRecursion (λ y. y < n) vs
  chain_below u z c d [] h = tt
  chain_below u z c d (v ∷ vs) h = (heads u v h.1.0 h.1.1, chain_below v z h.0 d vs h.2)

  -- for each chain there is one of the same ends, no dearer, of at most n hops, and of fewer where it begins below n
  pub Chain-few : (u z : ℕ) (d : C) (vs : List ℕ) → Chain (Paying ops Hop) u ops.zero vs z d →
      (ws : List ℕ) × (e : C) × Chain (Paying ops Hop) u ops.zero ws z e × NoDearer ops e d × ops.units e (length ws * 2) × (length ws ≤ n) × (u < n → length ws < n)
  Chain-few u z d vs h =
      let r = Chain-simple laws (λ u v s p. laws.units_valid s 2 (units u v s p)) u z d vs h in
      let below = chain_below u z ops.zero r.1 r.0 r.2 in
      let some : length r.0 ≤ n = length-le_from_distinct_below r.0 n (IsDistinct-tail eqb u r.0 r.4) (below_all n r.0 below) in
      let less : u < n → length r.0 < n = λ lt. let all : length (u ∷ r.0) ≤ n = length-le_from_distinct_below (u ∷ r.0) n r.4 (below_all n (u ∷ r.0) (lt, below)) in omega arith in
      let paid : ops.units r.1 (0 + length r.0 * 2) = Chain-units laws (λ u v s p. laws.units_valid s 2 (units u v s p)) 2 units u z 0 ops.zero r.1 r.0 laws.zero_units r.2 in
      (r.0, r.1, r.2, r.3, laws.units_more r.1 (0 + length r.0 * 2) (length r.0 * 2) paid (omega arith), some, less)

-- no chain over the parts of the same ends is cheaper than d
abbrev IsLeastPass : {C : Type 0} → CostOps C → Cut C → ℕ → ℕ → C → Type 0
IsLeastPass {C} ops K u z d = (vs : List ℕ) (e : C) → Passes ops K u vs z e → NoDearer ops d e

module _ {C : Type 0} {ops : CostOps C} (laws : CostLaws ops) (K : Cut C) (cut : IsCut ops K) (n : ℕ) (small : IsSmall ops K n) where
  -- where a chain may end, the least is what a chain over the whole pays that has fewer than n hops
  ended_units : (u z : ℕ) (d : C) (vs : List ℕ) → u < n → MayBegin K u → MayEnd K z → Passes ops K u vs z d → IsLeastPass ops K u z d → (m : ℕ) × (m < n) × ops.units d (m * 2)
  ended_units u z d vs lt b m h least =
      let g = goes_from_pass laws K cut u z ops.zero d vs laws.zero_valid h in
      let r = Chain-few laws n small.heads small.units u z d g.0 g.1 in
      let p = pass_from_goes laws K cut u z r.1 r.0 b m r.2 in
      let ve : ops.valid r.1 = laws.units_valid r.1 (length r.0 * 2) r.4 in
      let vd : ops.valid d = Chain-valid laws (over_valid laws K cut) u z ops.zero d vs laws.zero_valid h in
      let le : NoDearer ops d r.1 = le_trans laws d p.1 r.1 (least p.0 p.1 p.2) p.3 in
      let same : r.1 ≡ d = same_from_le laws r.1 d ve vd r.3 le in
      (length r.0, r.6 lt, subst (λ x. ops.units x (length r.0 * 2)) same r.4)

  shortcut_units : (u v : ℕ) (s : C) → K.Shortcut u v s → ops.units s (n * 2)
  shortcut_units u v s h =
      let run = cut.stands u v s h in
      let r = Chain-few laws {Hop = RunHop K} n (λ u v s p. small.heads u v s p.1) (λ u v s p. small.units u v s p.1) u v s run.0 run.1 in
      let ve : ops.valid r.1 = laws.units_valid r.1 (length r.0 * 2) r.4 in
      let vs : ops.valid s = over_valid laws K cut u v s (inr h) in
      let same : r.1 ≡ s = same_from_le laws r.1 s ve vs r.3 (cut.least u v s r.1 r.0 h r.2) in
      laws.units_more s (length r.0 * 2) (n * 2) (subst (λ x. ops.units x (length r.0 * 2)) same r.4) (mul-le-mul_right 2 r.5)

  over_units : (u v : ℕ) (s : C) → OverHop K u v s → ops.units s (2 ^ 29)
  over_units u v s h = elim h [
    | inl p ↦ laws.units_more s 2 (2 ^ 29) (small.units u v s p.1) (omega arith)
    | inr p ↦ let few = small.few in laws.units_more s (n * 2) (2 ^ 29) (shortcut_units u v s p) (omega arith)
  ]

  over_heads : (u v : ℕ) (s : C) → OverHop K u v s → v < n
  over_heads u v s h = elim h [ inl p ↦ small.heads u v s p.1 | inr p ↦ small.within u v s p ]

  -- what a least chain over the parts pays is within 2 * n units
  pub least_pass_units : (u z : ℕ) (d : C) (vs : List ℕ) → u < n → MayBegin K u → Passes ops K u vs z d → IsLeastPass ops K u z d → ops.units d (n * 2)
  least_pass_units u z d vs lt b h least = elim (Chain-ends (Paying ops (OverHop K)) u z ops.zero d vs h) [
    | inl p ↦ subst (λ x. ops.units x (n * 2)) (sym p.1) (laws.units_more ops.zero 0 (n * 2) laws.zero_units (omega arith))
    | inr q ↦
        let y : ℕ = q.1 in
        let e : C = q.2 in
        let s : C = q.4.0 in
        let sum : d ≡ ops.plus e s = q.4.2 in
        elim q.4.1 [
          | inl p ↦
              let ends : MayEnd K y = elim (cut.joined_or_not y y) [ inl j ↦ inr (cut.leaves y z s p.1 p.0 j) | inr a ↦ inl a ] in
              let vs0 : ops.valid s = cut.valid y z s p.1 in
              let ve : ops.valid e = Chain-valid laws (over_valid laws K cut) u y ops.zero e q.0 laws.zero_valid q.3 in
              let before : IsLeastPass ops K u y e = λ ws f k.
              let vf : ops.valid f = Chain-valid laws (over_valid laws K cut) u y ops.zero f ws laws.zero_valid k in
              let on : Passes ops K u (ws ++ z ∷ []) z (ops.plus f s) = Chain-push (Paying ops (OverHop K)) u y z ops.zero f (ops.plus f s) ws k (s, inl p, refl) in
              let le : NoDearer ops (ops.plus e s) (ops.plus f s) = subst (λ x. NoDearer ops x (ops.plus f s)) sum (least (ws ++ z ∷ []) (ops.plus f s) on) in
              plus_le_back laws e f s ve vf vs0 le in
              let r = ended_units u y e q.0 lt b ends q.3 before in
              let m : ℕ = r.0 in
              let fewer : m < n = r.1 in
              let both : ops.units (ops.plus e s) (m * 2 + 2) = laws.plus_units e s (m * 2) 2 r.2 (small.units y z s p.1) in
              subst (λ x. ops.units x (n * 2)) (sym sum) (laws.units_more (ops.plus e s) (m * 2 + 2) (n * 2) both (omega arith))
          | inr p ↦
              let r = ended_units u z d vs lt b (inr (cut.joins y z s p).1) h least in
              let m : ℕ = r.0 in
              let fewer : m < n = r.1 in
              laws.units_more d (m * 2) (n * 2) r.2 (omega arith)
        ]
  ]

module _ {C : Type 0} {ops : CostOps C} (laws : CostLaws ops) (K : Cut C) (cut : IsCut ops K) (over : Space C) (is_over : IsOver K over) where
  pub pass_from_path : (u z : ℕ) (c d : C) (vs : List ℕ) → Path ops over u c vs z d → Chain (Paying ops (OverHop K)) u c vs z d
  pass_from_path = Chain-map (StepBy ops over) {T = Paying ops (OverHop K)} (λ u v c d k. (k.0, (is_over u v k.0).0 k.1, k.2))

  pub path_from_pass : (u z : ℕ) (c d : C) (vs : List ℕ) → Chain (Paying ops (OverHop K)) u c vs z d → Path ops over u c vs z d
  path_from_pass = Chain-map (Paying ops (OverHop K)) {T = StepBy ops over} (λ u v c d k. (k.0, (is_over u v k.0).1 k.1, k.2))

  -- a small one can be searched over its parts
  pub IsSpace-over : (n : ℕ) → IsSmall ops K n → over.vertices ≡ n → ((u : ℕ) → over.May u → (u < n) × MayBegin K u) → IsSpace ops over
  IsSpace-over n small size may = record {
    heads = λ u v s h. let lt : v < n = over_heads laws K cut n small u v s ((is_over u v s).0 h) in omega arith;
    hop_units = λ u v s h. over_units laws K cut n small u v s ((is_over u v s).0 h);
    least_units = λ u z d vs m h least.
        let few = small.few in
        let b = may u m in
        let cheapest : IsLeastPass ops K u z d = λ ws e k. least ws e (path_from_pass u z ops.zero e ws k) in
        laws.units_more d (n * 2) (2 ^ 28) (least_pass_units laws K cut n small u z d vs b.0 b.1 (pass_from_path u z ops.zero d vs h) cheapest) (omega arith);
  }
