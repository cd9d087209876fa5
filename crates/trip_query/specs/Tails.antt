-- For the functions of this crate alone: what trips pay, and how they go on from a place through the places of a set.
-- A set is a number with a bit for each of its places.
use Rattle.std.specs.Prelude.{◌≡◌, ℕ, ◌+◌, ◌-◌, ◌*◌, ◌^◌, ◌<◌, ◌≤◌, ◌⊎◌, ◌==◌, ◌&&◌, not, Vec, if◌then◌else◌, List, [], ◌∷◌, Option, Some, None, MatchOption, length, slice_index_or}
use Rattle.std.specs.Global.{Global}
use Rattle.std.specs.Int.{bit_at}
use Rattle.std.specs.List.{slice_get}
use Rattle.search_graph.specs.Costs.{CostOps, NoDearer}
use Rattle.std.specs.declared.cmp.Ordering.TheVariants.{Less}
use Rattle.trip_query.specs.Orders.{IsFirst, HasNone}
use Rattle.trip_query.specs.Trips.{leg, both, lists_of, begins_at_first, is_last}
use Rattle.trip_query.specs.declared.rules.Rule.{Rule}
use Rattle.trip_query.specs.declared.steps.Step.{Step}

-- ---- what trips pay
-- each row has n values
abbrev pub AreWide : {A : Type 0} → ℕ → List (Vec A Global) → Type 0
AreWide {A} n rows = (i : ℕ) (row : Vec A Global) → slice_get rows i ≡ Some row → length row.items ≡ n

-- each cost of a row is within so many units
abbrev pub IsWithin : {C : Type 0} → CostOps C → ℕ → List (Option C) → Type 0
IsWithin {C} ops most row = (k : ℕ) (c : C) → slice_index_or row k None ≡ Some c → ops.units c most

-- each cost of a table is
abbrev pub AreWithin : {C : Type 0} → CostOps C → ℕ → List (List (Option C)) → Type 0
AreWithin {C} ops most rows = (i j : ℕ) (c : C) → leg rows i j ≡ Some c → ops.units c most

-- nine places at most, and what is paid for each leg, to begin at each and to end at each, within 2^27 units
pub record AreReady {C : Type 0} (ops : CostOps C) (rows : List (Vec (Option C) Global)) (begins ends : List (Option C)) : Type 0 where
  pub few : length rows ≤ 9
  pub square : AreWide (length rows) rows
  pub units : AreWithin ops (2 ^ 27) (lists_of rows)
  pub begin_each : length begins ≡ length rows
  pub begin_units : IsWithin ops (2 ^ 27) begins
  pub end_each : length ends ≡ length rows
  pub end_units : IsWithin ops (2 ^ 27) ends

-- what is paid to begin a trip at place k: nothing, or the way back from the last place to it; None where the rule
-- admits no trip that does
abbrev pub begin_at : {C : Type 0} → CostOps C → List (List (Option C)) → Rule → ℕ → Option C
begin_at ops rows rule k =
    if begins_at_first rule then (if k == 0 then Some ops.zero else None) else (if rule.roundtrip then leg rows (length rows - 1) k else Some ops.zero)

-- what is paid to end it at place k: nothing, or the way back from there to the first place
abbrev pub end_at : {C : Type 0} → CostOps C → List (List (Option C)) → Rule → ℕ → Option C
end_at ops rows rule k =
    if is_last rule.destination && not (k == length rows - 1) then None else (if rule.roundtrip && begins_at_first rule then leg rows k 0 else Some ops.zero)

-- the list has these values, from 0 up to n
pub record IsListOf {A : Type 0} (f : ℕ → Option A) (n : ℕ) (list : List (Option A)) : Type 0 where
  pub size : length list ≡ n
  pub each : (k : ℕ) → k < n → slice_index_or list k None ≡ f k

-- ---- how they go on
-- the list goes through each place of the set once
abbrev pub Goes : ℕ → List ℕ → Type 0
Goes set [] = set ≡ 0
Goes set (k ∷ rest) = (bit_at set k ≡ 1) × Goes (set - 2 ^ k) rest

-- what it costs to go on from place k through the list, and to end where it ends
abbrev pub onward : {C : Type 0} → CostOps C → List (List (Option C)) → List (Option C) → ℕ → List ℕ → Option C
onward ops rows ends k [] = slice_index_or ends k None
onward ops rows ends k (j ∷ rest) = both ops (leg rows k j) (onward ops rows ends j rest)

-- the same where the first leg is one of this row
abbrev pub through : {C : Type 0} → CostOps C → List (List (Option C)) → List (Option C) → List (Option C) → List ℕ → Option C
through ops rows ends row [] = None
through ops rows ends row (k ∷ rest) = both ops (slice_index_or row k None) (onward ops rows ends k rest)

-- a tail: the least that it costs to go on from place k through the places of the set, in the first of the cheapest
-- orders; None where no order has a cost
abbrev pub IsTail : {C : Type 0} → CostOps C → List (List (Option C)) → List (Option C) → ℕ → ℕ → Option C → Type 0
IsTail ops rows ends set k value = MatchOption value (HasNone (Goes set) (onward ops rows ends k)) (λ c. (rest : List ℕ) × IsFirst ops (Goes set) (onward ops rows ends k) rest c)

-- the tails of each set below a bound, from each place
abbrev pub AreTails : {C : Type 0} → CostOps C → List (List (Option C)) → List (Option C) → ℕ → List (List (Option C)) → Type 0
AreTails {C} ops rows ends below tails = (set k : ℕ) → set < below → k < length rows → IsTail ops rows ends set k (leg tails set k)

-- the same in vectors
pub record AreRowsOfTails {C : Type 0} (ops : CostOps C) (rows : List (Vec (Option C) Global)) (ends : List (Option C)) (below : ℕ) (tails : List (Vec (Option C) Global)) : Type 0 where
  pub count : length tails ≡ below
  pub wide : AreWide (length rows) tails
  pub are : AreTails ops (lists_of rows) ends below (lists_of tails)

-- the order has place k in front, and goes on from there through the set in the first of the cheapest orders, which
-- cost c
pub record IsOrderFrom {C : Type 0} (ops : CostOps C) (rows : List (List (Option C))) (ends : List (Option C)) (set k : ℕ) (c : C) (order : List ℕ) : Type 0 where
  pub rest : List ℕ
  pub items : order ≡ k ∷ rest
  pub first : IsFirst ops (Goes set) (onward ops rows ends k) rest c

-- ---- steps
-- a leg of this row to place k, and on from there through the other places of the set
abbrev pub via : {C : Type 0} → CostOps C → List (List (Option C)) → ℕ → List (Option C) → ℕ → Option C
via ops tails set row k = if bit_at set k == 1 then both ops (slice_index_or row k None) (leg tails (set - 2 ^ k) k) else None

-- of the numbers below n the first of those for which f is least
pub record IsFirstStep {C : Type 0} (ops : CostOps C) (f : ℕ → Option C) (n : ℕ) (step : Step C) : Type 0 where
  pub within : step.place < n
  pub costs : f step.place ≡ Some step.cost
  pub least : (k : ℕ) (d : C) → k < n → f k ≡ Some d → NoDearer ops step.cost d × (step.cost ≡ d → step.place ≤ k)

-- such a number, or none where f is None for each
abbrev pub IsStep : {C : Type 0} → CostOps C → (ℕ → Option C) → ℕ → Option (Step C) → Type 0
IsStep {C} ops f n step = MatchOption step ((k : ℕ) (d : C) → k < n → ¬ (f k ≡ Some d)) (IsFirstStep ops f n)

-- of the best step so far and that to place k, where it has a cost, the better one
abbrev pub IsSooner : {C : Type 0} → CostOps C → Option (Step C) → ℕ → Option C → Option (Step C) → Type 0
IsSooner ops best k None result = result ≡ best
IsSooner ops None k (Some c) result = result ≡ Some (record { place = k; cost = c })
IsSooner ops (Some b) k (Some c) result = ((ops.cmp c b.cost ≡ Less) × (result ≡ Some (record { place = k; cost = c }))) ⊎ (NoDearer ops b.cost c × (result ≡ Some b))
