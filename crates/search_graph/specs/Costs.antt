-- What a cost is, to a search: values that add up and are in one order, under laws that make the least
-- sum well defined (Dijkstra's conditions, for sums of any ordered commutative kind; the bounds on sizes
-- are this project's rule).
use Rattle.std.specs.Prelude.{◌≡◌, ℕ, ◌+◌, ◌≤◌, false}
use Rattle.std.specs.declared.cmp.Ordering.{Ordering}
use Rattle.std.specs.declared.cmp.Ordering.TheVariants.{Less, Equal}
use Rattle.std.specs.Ordering.{is_gt}
use Rattle.std.specs.Cmp.{IsTotalOrder}

-- What a type of costs means: which values are valid (no part is below 0), which are within n units
-- (valid, and no part is above n of the type's units), nothing, the sum, and the order.
pub record CostOps (C : Type 0) : Type 1 where
  pub valid : C → Type 0
  pub units : C → ℕ → Type 0
  pub zero : C
  pub plus : C → C → C
  pub cmp : C → C → Ordering

-- a costs no more than b
abbrev pub NoDearer : {C : Type 0} → CostOps C → C → C → Type 0
NoDearer ops a b = is_gt (ops.cmp a b) ≡ false

-- The laws, over valid values of any size: the order is total, sums are associative and commutative, nothing is valid, neutral
-- and least, a sum keeps the order strictly and cancels, costs that compare equal are equal; and how units add up.
pub record CostLaws {C : Type 0} (ops : CostOps C) : Type 0 where
  pub total : IsTotalOrder ops.cmp
  pub zero_valid : ops.valid ops.zero
  pub plus_valid : (a b : C) → ops.valid a → ops.valid b → ops.valid (ops.plus a b)
  pub assoc : (a b c : C) → ops.valid a → ops.valid b → ops.valid c → ops.plus (ops.plus a b) c ≡ ops.plus a (ops.plus b c)
  pub comm : (a b : C) → ops.valid a → ops.valid b → ops.plus a b ≡ ops.plus b a
  pub neutral : (a : C) → ops.valid a → ops.plus a ops.zero ≡ a
  pub zero_least : (a : C) → ops.valid a → NoDearer ops ops.zero a
  pub keeps_order : (a b c : C) → ops.valid a → ops.valid b → ops.valid c → ops.cmp a b ≡ Less → ops.cmp (ops.plus a c) (ops.plus b c) ≡ Less
  pub cancels : (a b c : C) → ops.valid a → ops.valid b → ops.valid c → ops.plus a c ≡ ops.plus b c → a ≡ b
  pub same : (a b : C) → ops.valid a → ops.valid b → ops.cmp a b ≡ Equal → a ≡ b
  pub units_valid : (a : C) (n : ℕ) → ops.units a n → ops.valid a
  pub zero_units : ops.units ops.zero 0
  pub units_more : (a : C) (n m : ℕ) → ops.units a n → n ≤ m → ops.units a m
  pub plus_units : (a b : C) (n m : ℕ) → ops.units a n → ops.units b m → ops.units (ops.plus a b) (n + m)
