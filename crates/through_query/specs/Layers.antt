-- For the functions of this crate alone: the least sums to each state of a place, and the way back from it.
use Rattle.std.specs.Prelude.{◌≡◌, ℕ, zero, suc, ◌+◌, ◌*◌, ◌^◌, ◌<◌, ◌≤◌, ◌⊎◌, List, [], ◌∷◌, Option, Some, None, Vec, MatchOption, length, map, slice_index_or}
use Rattle.std.specs.Global.{Global}
use Rattle.std.specs.Option.{option_map}
use Rattle.std.specs.declared.cmp.Ordering.TheVariants.{Less}
use Rattle.search_graph.specs.Costs.{NoDearer}
use Rattle.search_graph.specs.RoadCosts.{road_cost_ops}
use Rattle.search_graph.specs.declared.costs.WeightDurLen.{WeightDurLen}
use Rattle.through_query.specs.Chains.{both, leg_cost}
use Rattle.through_query.specs.declared.layers.Layer.{Layer}
use Rattle.through_query.specs.declared.legs.LegCosts.{LegCosts}
use Rattle.through_query.specs.declared.steps.Step.{Step}
use Rattle.through_query.specs.declared.sums.Sum.{Sum}

-- ---- sums
-- a sum as a cost, which has no bound here
abbrev pub plain : Sum → WeightDurLen
plain s = record { weight = s.weight; duration = s.duration; length = s.length }

-- the sum is of so many legs at most, whatever they cost
pub record IsSumWithin (n : ℕ) (s : Sum) : Type 0 where
  pub weight : s.weight ≤ n * 2 ^ 64
  pub duration : s.duration ≤ n * 2 ^ 64
  pub length : s.length ≤ n * 2 ^ 64

abbrev pub AreSumsWithin : ℕ → List (Option Sum) → Type 0
AreSumsWithin n sums = (x : ℕ) (s : Sum) → slice_index_or sums x None ≡ Some s → IsSumWithin n s

-- the sum at a state, as a cost
abbrev pub sum_at : List (Option Sum) → ℕ → Option WeightDurLen
sum_at sums x = option_map plain (slice_index_or sums x None)

-- nothing is paid yet at each of so many states
pub record IsStart (n : ℕ) (sums : List (Option Sum)) : Type 0 where
  pub size : length sums ≡ n
  pub each : (x : ℕ) → x < n → sum_at sums x ≡ Some road_cost_ops.zero
  pub room : AreSumsWithin 0 sums

-- ---- steps
-- the sum at state x, and the leg from there to state y
abbrev pub by_leg : List (Option Sum) → LegCosts → ℕ → ℕ → Option WeightDurLen
by_leg sums leg y x = both (sum_at sums x) (leg_cost leg x y)

-- of the numbers below n one for which f is least
pub record IsLeastStep (f : ℕ → Option WeightDurLen) (n : ℕ) (step : Step) : Type 0 where
  pub inside : step.state < n
  pub costs : f step.state ≡ Some (plain step.sum)
  pub least : (x : ℕ) (d : WeightDurLen) → x < n → f x ≡ Some d → NoDearer road_cost_ops (plain step.sum) d

-- such a number, or none where f is None for each
abbrev pub IsStep : (ℕ → Option WeightDurLen) → ℕ → Option Step → Type 0
IsStep f n step = MatchOption step ((x : ℕ) (d : WeightDurLen) → x < n → ¬ (f x ≡ Some d)) (IsLeastStep f n)

-- of the best step so far and that by state x, where it has a sum, the lesser
abbrev pub IsLesser : Option Step → ℕ → Option Sum → Option Step → Type 0
IsLesser best x None result = result ≡ best
IsLesser None x (Some s) result = result ≡ Some (record { state = x; sum = s })
IsLesser (Some b) x (Some s) result = ((road_cost_ops.cmp (plain s) (plain b.sum) ≡ Less) × (result ≡ Some (record { state = x; sum = s }))) ⊎ (NoDearer road_cost_ops (plain b.sum) (plain s) × (result ≡ Some b))

-- ---- layers
abbrev pub sum_of : Option Step → Option Sum
sum_of None = None
sum_of (Some step) = Some step.sum

abbrev pub state_of : Option Step → ℕ
state_of None = 0
state_of (Some step) = step.state

-- the sum at a state behind a leg is the least with which the leg leads there, from the state before
abbrev pub IsArrival : List (Option Sum) → LegCosts → ℕ → Option Sum → ℕ → Type 0
IsArrival sums leg y None before = (x : ℕ) (d : WeightDurLen) → ¬ (by_leg sums leg y x ≡ Some d)
IsArrival sums leg y (Some s) before = (by_leg sums leg y before ≡ Some (plain s)) × ((x : ℕ) (d : WeightDurLen) → by_leg sums leg y x ≡ Some d → NoDearer road_cost_ops (plain s) d)

-- so at each state
pub record AreArrivals (sums : List (Option Sum)) (leg : LegCosts) (n : ℕ) (reached : List (Option Sum)) (befores : List ℕ) : Type 0 where
  pub sums_size : length reached ≡ n
  pub befores_size : length befores ≡ n
  pub each : (y : ℕ) → y < n → IsArrival sums leg y (slice_index_or reached y None) (slice_index_or befores y 0)
  pub room : (m : ℕ) → AreSumsWithin m sums → AreSumsWithin (m + 1) reached

abbrev pub IsLayer : List (Option Sum) → LegCosts → Layer → Type 0
IsLayer sums leg layer = AreArrivals sums leg leg.ends layer.sums.items layer.befores.items

-- ---- the way back
-- the states before those behind leg k
abbrev pub befores_at : List (Vec ℕ Global) → ℕ → List ℕ
befores_at befores k = slice_index_or (map (λ row. row.items) befores) k []

-- the states of a chain, with those behind the first k legs before them
abbrev pub back : ℕ → List (Vec ℕ Global) → List ℕ → List ℕ
back zero befores states = states
back (suc k) befores [] = []
back (suc k) befores (y ∷ more) = back k befores (slice_index_or (befores_at befores k) y 0 ∷ y ∷ more)

-- from state y there are states before, back to the first place
abbrev pub GoesBack : ℕ → List (Vec ℕ Global) → ℕ → Type 0
GoesBack zero befores y = Unit {0}
GoesBack (suc k) befores y = (y < length (befores_at befores k)) × GoesBack k befores (slice_index_or (befores_at befores k) y 0)
