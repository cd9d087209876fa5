-- The first of the cheapest of some lists of numbers, in lexicographic order.
use Rattle.std.specs.Prelude.{◌≡◌, ℕ, ◌<◌, ◌⊎◌, List, [], ◌∷◌, Option, Some, MatchOption}
use Rattle.search_graph.specs.Costs.{CostOps, NoDearer}
use Rattle.trip_query.specs.declared.trips.Trip.{Trip}

-- the first list comes no later than the second in lexicographic order
abbrev pub IsNoLater : List ℕ → List ℕ → Type 0
IsNoLater [] ys = Unit {0}
IsNoLater (x ∷ xs) [] = ⊥
IsNoLater (x ∷ xs) (y ∷ ys) = (x < y) ⊎ ((x ≡ y) × IsNoLater xs ys)

-- of all lists that P admits and that have a cost by f this one costs the least, and of those that cost as much it is
-- the first
pub record IsFirst {C : Type 0} (ops : CostOps C) (P : List ℕ → Type 0) (f : List ℕ → Option C) (order : List ℕ) (cost : C) : Type 0 where
  pub admitted : P order
  pub costs : f order ≡ Some cost
  pub least : (other : List ℕ) (d : C) → P other → f other ≡ Some d → NoDearer ops cost d × (cost ≡ d → IsNoLater order other)

-- no list that P admits has a cost by f
abbrev pub HasNone : {C : Type 0} → (List ℕ → Type 0) → (List ℕ → Option C) → Type 0
HasNone {C} P f = (order : List ℕ) (cost : C) → P order → ¬ (f order ≡ Some cost)

-- the first of the cheapest of all lists that P admits, with its cost, or none exactly where none of them has a cost
abbrev pub IsFirstOf : {C : Type 0} → CostOps C → (List ℕ → Type 0) → (List ℕ → Option C) → Option (Trip C) → Type 0
IsFirstOf ops P f answer = MatchOption answer (HasNone P f) (λ trip. IsFirst ops P f trip.order trip.cost)
