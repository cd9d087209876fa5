-- The loop over the legs, one leg on.
use Rattle.std.proofs.Common.{◌≡◌, ℕ, ◌+◌, ◌<◌, List, [], ◌∷◌, ◌++◌, Option, Some, None, Vec, length, take, sym, subst, ◌∙◌, arith}
use Rattle.std.specs.Global.{Global}
use Rattle.std.specs.List.{slice_get}
use Rattle.list_lemmas.proofs.Fronts.{slice_get-take, take-get}
use Rattle.through_query.specs.Chains.{HasChain, IsBrokenAt}
use Rattle.through_query.specs.Layers.{AreArrivals, IsLeastStep, IsStep, plain, sum_at}
use Rattle.through_query.specs.declared.legs.LegCosts.{LegCosts}
use Rattle.through_query.specs.declared.steps.Step.{Step}
use Rattle.through_query.specs.declared.sums.Sum.{Sum}
use Rattle.through_query.proofs.Reading.{sum_within}
use Rattle.through_query.proofs.Standing.{IsLast, Stands, chain_left, none_left, stands_more}

-- the sums stand for the first legs
abbrev pub StandsFor : List LegCosts → ℕ → List (Option Sum) → List (Vec ℕ Global) → Type 0
StandsFor legs n sums befores = (first : LegCosts) → slice_get legs 0 ≡ Some first → Stands first.starts (take n legs) sums befores

module _ (legs : List LegCosts) (n : ℕ) (sums : List (Option Sum)) (befores : List (Vec ℕ Global)) (h : StandsFor legs n sums befores)
    (leg : LegCosts) (at : slice_get legs n ≡ Some leg) (reached : List (Option Sum)) (row : Vec ℕ Global) (arrivals : AreArrivals sums leg leg.ends reached row.items) where
  pub stands_for_more : StandsFor legs (n + 1) reached (befores ++ row ∷ [])
  stands_for_more first begins =
      subst (λ l. Stands first.starts l reached (befores ++ row ∷ [])) (sym (take-get legs n leg at)) (stands_more first.starts (take n legs) sums befores (h first begins) leg reached row arrivals)

  module _ (first : LegCosts) (begins : slice_get legs 0 ≡ Some first) where
    -- where nothing is reached the legs break
    pub broken : n < length legs → HasChain (take n legs) → IsStep (sum_at reached) (length reached) None → IsBrokenAt legs n
    broken inside chain none = record {
      inside = inside;
      before = chain;
      none =
          let some : 0 < n + 1 = omega arith in
          none_left first (take (n + 1) legs) reached (befores ++ row ∷ []) (stands_for_more first begins) (slice_get-take legs (n + 1) 0 some ∙ begins) none;
    }

    -- where a state is reached there is a chain
    pub unbroken : (step : Step) → IsLeastStep (sum_at reached) (length reached) step → HasChain (take (n + 1) legs)
    unbroken step is = chain_left first (take (n + 1) legs) reached (befores ++ row ∷ []) (stands_for_more first begins) step.state (plain step.sum) is.costs

-- the state of the least sum
pub least_is_last : (sums : List (Option Sum)) (step : Step) → IsLeastStep (sum_at sums) (length sums) step → IsLast sums step.state
least_is_last sums step is = record {
  cost = plain step.sum;
  is = is.costs;
  least = λ y d e. is.least y d (sum_within sums y d e) e;
}
