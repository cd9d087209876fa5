-- Trips through all places of a table of costs, and the best of them (this project's rule, over the options of OSRM's
-- trip service).
use Rattle.std.specs.Prelude.{◌≡◌, ℕ, ◌-◌, ◌<◌, ◌&&◌, ◌||◌, not, Bool, true, false, IsTrue, if◌then◌else◌, List, [], ◌∷◌, ◌++◌, Option, Some, None, Vec, length, map, slice_index_or, take}
use Rattle.std.specs.Global.{Global}
use Rattle.std.specs.List.{Contains, IsDistinct}
use Rattle.std.proofs.Math.Dec.{eqb}
use Rattle.search_graph.specs.Costs.{CostOps}
use Rattle.trip_query.specs.Orders.{IsFirstOf}
use Rattle.trip_query.specs.declared.rules.Source.{Source}
use Rattle.trip_query.specs.declared.rules.Source.TheVariants as source
use Rattle.trip_query.specs.declared.rules.Destination.{Destination}
use Rattle.trip_query.specs.declared.rules.Destination.TheVariants as destination
use Rattle.trip_query.specs.declared.rules.Rule.{Rule}
use Rattle.trip_query.specs.declared.trips.Trip.{Trip}

-- what the leg from place i to place j costs; None where none leads there
abbrev pub leg : {C : Type 0} → List (List (Option C)) → ℕ → ℕ → Option C
leg rows i j = slice_index_or (slice_index_or rows i []) j None

-- both together; None where one is
abbrev pub both : {C : Type 0} → CostOps C → Option C → Option C → Option C
both ops None b = None
both ops (Some a) None = None
both ops (Some a) (Some b) = Some (ops.plus a b)

-- what the legs from each place to the next cost together
abbrev pub sum_along : {C : Type 0} → CostOps C → List (List (Option C)) → List ℕ → Option C
sum_along ops rows [] = Some ops.zero
sum_along ops rows (i ∷ []) = Some ops.zero
sum_along ops rows (i ∷ j ∷ more) = both ops (leg rows i j) (sum_along ops rows (j ∷ more))

-- where a trip stops: at the places in their order, and on a round trip at the first of them again
abbrev pub stops : Bool → List ℕ → List ℕ
stops round order = if round then order ++ take 1 order else order

-- what a trip costs; None where it lacks a leg
abbrev pub cost_of : {C : Type 0} → CostOps C → List (List (Option C)) → Rule → List ℕ → Option C
cost_of ops rows rule order = sum_along ops rows (stops rule.roundtrip order)

-- the trip has to begin at the first place
abbrev pub is_first : Source → Bool
is_first source.Any = false
is_first source.First = true

-- the trip has to end at the last place
abbrev pub is_last : Destination → Bool
is_last destination.Any = false
is_last destination.Last = true

-- a trip begins at the first place where that is asked for, and where it is a round trip that may end anywhere
abbrev pub begins_at_first : Rule → Bool
begins_at_first rule = is_first rule.source || (rule.roundtrip && not (is_last rule.destination))

-- each number below n stands in the list once, and no other does
pub record IsArrangement (n : ℕ) (order : List ℕ) : Type 0 where
  pub once : IsDistinct eqb order
  pub every : (k : ℕ) → k < n → Contains order k
  pub only : (k : ℕ) → Contains order k → k < n

-- the rule admits this order of n places
pub record IsAdmitted (rule : Rule) (n : ℕ) (order : List ℕ) : Type 0 where
  pub all : IsArrangement n order
  pub begins : IsTrue (begins_at_first rule) → (rest : List ℕ) × (order ≡ 0 ∷ rest)
  pub ends : IsTrue (is_last rule.destination) → (front : List ℕ) × (order ≡ front ++ (n - 1) ∷ [])

-- the lists in a list of vectors
abbrev pub lists_of : {A : Type 0} → List (Vec A Global) → List (List A)
lists_of rows = map (λ row. row.items) rows

-- of all orders that the rule admits the lexicographically first of the cheapest, or none exactly where each lacks a
-- leg
abbrev pub IsBestTrip : {C : Type 0} → CostOps C → List (List (Option C)) → Rule → Option (Trip C) → Type 0
IsBestTrip ops rows rule answer = IsFirstOf ops (IsAdmitted rule (length rows)) (cost_of ops rows rule) answer
