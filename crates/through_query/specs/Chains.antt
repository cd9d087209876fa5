-- Chains of states through legs, one at each place, and the least of them (this project's rule, for a route that goes
-- on at each place in the direction in which it came).
use Rattle.std.specs.Prelude.{◌≡◌, ℕ, ◌+◌, ◌*◌, ◌<◌, ◌&&◌, nat_lt, if◌then◌else◌, List, [], ◌∷◌, Option, Some, None, length, slice_index_or, take}
use Rattle.search_graph.specs.Costs.{NoDearer}
use Rattle.search_graph.specs.RoadCosts.{road_cost_ops}
use Rattle.search_graph.specs.declared.costs.WeightDurLen.{WeightDurLen}
use Rattle.through_query.specs.declared.chains.Chain.{Chain}
use Rattle.through_query.specs.declared.chains.Chain.TheVariants.{States, Broken}
use Rattle.through_query.specs.declared.legs.LegCosts.{LegCosts}

-- what a leg costs from state x to state y; None where no walk leads there, or where there is no such state
abbrev pub leg_cost : LegCosts → ℕ → ℕ → Option WeightDurLen
leg_cost leg x y = if nat_lt x leg.starts && nat_lt y leg.ends then slice_index_or leg.costs.items (x * leg.ends + y) None else None

-- both together; None where one is. Sums have no bound here
abbrev pub both : Option WeightDurLen → Option WeightDurLen → Option WeightDurLen
both None b = None
both (Some a) None = None
both (Some a) (Some b) = Some (road_cost_ops.plus a b)

-- what the legs cost by these states, one at each place; None where a leg lacks a cost between its two states, and where
-- there is not one state more than there are legs
abbrev pub chain_cost : List LegCosts → List ℕ → Option WeightDurLen
chain_cost [] [] = None
chain_cost [] (x ∷ []) = Some road_cost_ops.zero
chain_cost [] (x ∷ y ∷ more) = None
chain_cost (leg ∷ legs) [] = None
chain_cost (leg ∷ legs) (x ∷ []) = None
chain_cost (leg ∷ legs) (x ∷ y ∷ more) = both (leg_cost leg x y) (chain_cost legs (y ∷ more))

-- some chain goes through the legs
abbrev pub HasChain : List LegCosts → Type 0
HasChain legs = (states : List ℕ) × (cost : WeightDurLen) × (chain_cost legs states ≡ Some cost)

-- the states are a chain, and no chain costs less
pub record IsLeastChain (legs : List LegCosts) (states : List ℕ) : Type 0 where
  pub cost : WeightDurLen
  pub costs : chain_cost legs states ≡ Some cost
  pub least : (others : List ℕ) (d : WeightDurLen) → chain_cost legs others ≡ Some d → NoDearer road_cost_ops cost d

-- leg i is the first behind which nothing reaches: a chain goes through those before it, and none through it as well
pub record IsBrokenAt (legs : List LegCosts) (i : ℕ) : Type 0 where
  pub inside : i < length legs
  pub before : HasChain (take i legs)
  pub none : ¬ HasChain (take (i + 1) legs)

-- a least chain, or the leg that breaks
abbrev pub IsAnswer : List LegCosts → Chain → Type 0
IsAnswer legs (States states) = IsLeastChain legs states.items
IsAnswer legs (Broken i) = IsBrokenAt legs i
