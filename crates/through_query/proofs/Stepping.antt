-- The least step so far, one state on.
use Rattle.std.proofs.Common.{◌≡◌, ℕ, ◌+◌, ◌<◌, List, Option, Some, None, inl, inr, refl, sym, subst, ◌∙◌, arith, length, IfSome}
use Rattle.std.specs.declared.cmp.Ordering.TheVariants.{Less}
use Rattle.std.specs.Option.{option_map}
use Rattle.std.proofs.lemmas.Option.{same_Some}
use Rattle.search_graph.specs.Costs.{NoDearer}
use Rattle.search_graph.specs.OrderLaws.{le_from_less, le_from_same, le_trans}
use Rattle.search_graph.specs.RoadCosts.{road_cost_ops, road_cost_laws}
use Rattle.search_graph.specs.declared.costs.WeightDurLen.{WeightDurLen}
use Rattle.through_query.specs.ChainLaws.{both_some}
use Rattle.through_query.specs.Chains.{leg_cost}
use Rattle.through_query.specs.Layers.{IsArrival, IsLeastStep, IsLesser, IsStep, IsSumWithin, by_leg, plain, state_of, sum_at, sum_of}
use Rattle.through_query.specs.declared.legs.LegCosts.{LegCosts}
use Rattle.through_query.specs.declared.steps.Step.{Step}
use Rattle.through_query.specs.declared.sums.Sum.{Sum}
use Rattle.through_query.proofs.Reading.{at_or_before, sum_within}

module _ (f : ℕ → Option WeightDurLen) (n : ℕ) where
  no_cost : f n ≡ None → (k : ℕ) (d : WeightDurLen) → k ≡ n → f k ≡ Some d → ⊥
  no_cost h k d at e = let g : f n ≡ Some d = subst (λ q. f q ≡ Some d) at e in cc

  same_cost : (c : WeightDurLen) → f n ≡ Some c → (k : ℕ) (d : WeightDurLen) → k ≡ n → f k ≡ Some d → c ≡ d
  same_cost c h k d at e = same_Some c d (sym h ∙ subst (λ q. f q ≡ Some d) at e)

  none_kept : f n ≡ None → (best : Option Step) → IsStep f n best → IsStep f (n + 1) best
  none_kept h None s = λ k d lt e. elim (at_or_before n k lt) [ inl at ↦ no_cost h k d at e | inr less ↦ s k d less e ]
  none_kept h (Some b) s = record {
    inside = let w = s.inside in omega (arith, w);
    costs = s.costs;
    least = λ k d lt e. elim (at_or_before n k lt) [ inl at ↦ absurd (no_cost h k d at e) | inr less ↦ s.least k d less e ];
  }

  first_one : (s : Sum) → f n ≡ Some (plain s) → ((k : ℕ) (d : WeightDurLen) → k < n → ¬ (f k ≡ Some d)) → IsLeastStep f (n + 1) (record { state = n; sum = s })
  first_one s h none = record {
    inside = omega arith;
    costs = h;
    least = λ k d lt e. elim (at_or_before n k lt) [
      | inl at ↦ le_from_same road_cost_laws (plain s) d (same_cost (plain s) h k d at e)
      | inr less ↦ absurd (none k d less e)
    ];
  }

  cheaper_one : (s : Sum) (b : Step) → f n ≡ Some (plain s) → road_cost_ops.cmp (plain s) (plain b.sum) ≡ Less → IsLeastStep f n b → IsLeastStep f (n + 1) (record { state = n; sum = s })
  cheaper_one s b h less best = record {
    inside = omega arith;
    costs = h;
    least = λ k d lt e. elim (at_or_before n k lt) [
      | inl at ↦ le_from_same road_cost_laws (plain s) d (same_cost (plain s) h k d at e)
      | inr lower ↦ le_trans road_cost_laws (plain s) (plain b.sum) d (le_from_less road_cost_laws (plain s) (plain b.sum) less) (best.least k d lower e)
    ];
  }

  kept_one : (s : Sum) (b : Step) → f n ≡ Some (plain s) → NoDearer road_cost_ops (plain b.sum) (plain s) → IsLeastStep f n b → IsLeastStep f (n + 1) b
  kept_one s b h le best = record {
    inside = let w = best.inside in omega (arith, w);
    costs = best.costs;
    least = λ k d lt e. elim (at_or_before n k lt) [
      | inl at ↦ subst (λ x. NoDearer road_cost_ops (plain b.sum) x) (same_cost (plain s) h k d at e) le
      | inr lower ↦ best.least k d lower e
    ];
  }

  pub step_more : (best : Option Step) (sum : Option Sum) (result : Option Step) → IsStep f n best → f n ≡ option_map plain sum → IsLesser best n sum result → IsStep f (n + 1) result
  step_more best None result s h r = subst (λ x. IsStep f (n + 1) x) (sym r) (none_kept h best s)
  step_more None (Some c) result s h r = subst (λ x. IsStep f (n + 1) x) (sym r) (first_one c h s)
  step_more (Some b) (Some c) result s h r = elim r [
    | inl one ↦ subst (λ x. IsStep f (n + 1) x) (sym one.1) (cheaper_one c b h one.0 s)
    | inr other ↦ subst (λ x. IsStep f (n + 1) x) (sym other.1) (kept_one c b h other.0 s)
  ]

pub step_none : (f : ℕ → Option WeightDurLen) → IsStep f 0 None
step_none f = λ k d lt e. omega (arith, lt)

-- the lesser of two is within what both are
pub lesser_within : (m : ℕ) (best : Option Step) (x : ℕ) (sum : Option Sum) (result : Option Step) → IfSome best (λ step. IsSumWithin m step.sum) → IfSome sum (IsSumWithin m) → IsLesser best x sum result → IfSome result (λ step. IsSumWithin m step.sum)
lesser_within m best x None result h k r = subst (λ o. IfSome o (λ step. IsSumWithin m step.sum)) (sym r) h
lesser_within m None x (Some s) result h k r = subst (λ o. IfSome o (λ step. IsSumWithin m step.sum)) (sym r) k
lesser_within m (Some b) x (Some s) result h k r = elim r [
  | inl one ↦ subst (λ o. IfSome o (λ step. IsSumWithin m step.sum)) (sym one.1) k
  | inr other ↦ subst (λ o. IfSome o (λ step. IsSumWithin m step.sum)) (sym other.1) h
]

-- the sum of a state that was read
pub if_within : (m : ℕ) (s : Option Sum) → ((t : Sum) → s ≡ Some t → IsSumWithin m t) → IfSome s (IsSumWithin m)
if_within m None h = tt
if_within m (Some t) h = h t refl

-- the least step is what the state behind the leg keeps
pub step_arrives : (sums : List (Option Sum)) (leg : LegCosts) (y : ℕ) (step : Option Step) → IsStep (by_leg sums leg y) (length sums) step → IsArrival sums leg y (sum_of step) (state_of step)
step_arrives sums leg y None none = λ x d e. let p = both_some (sum_at sums x) (leg_cost leg x y) d e in none x d (sum_within sums x p.0 p.2) e
step_arrives sums leg y (Some step) h = (h.costs, λ x d e. let p = both_some (sum_at sums x) (leg_cost leg x y) d e in h.least x d (sum_within sums x p.0 p.2) e)
