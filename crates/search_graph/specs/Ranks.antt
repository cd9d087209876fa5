-- Numbers that stand for costs in their order (this project's rule).
use Rattle.std.specs.Prelude.{◌≡◌, ℕ, ◌+◌, ◌<◌, ◌^◌, Option, Some}
use Rattle.std.specs.Ordering.{nat_cmp}
use Rattle.search_graph.specs.Costs.{CostOps}

-- A cost may have a number below 2^63: it gives the cost back, two numbers are in the order of their costs, and so are the sum
-- of two and a third, although the sum of two costs may have no number, or another.
pub record AreRanks {C : Type 0} (ops : CostOps C) (ranked : C → Option ℕ) (unranked : ℕ → C) : Type 0 where
  pub short : (a : C) (r : ℕ) → ranked a ≡ Some r → r < 2 ^ 63
  pub back : (a : C) (r : ℕ) → ranked a ≡ Some r → unranked r ≡ a
  pub ordered : (a b : C) (r s : ℕ) → ranked a ≡ Some r → ranked b ≡ Some s → ops.cmp a b ≡ nat_cmp r s
  pub sums : (a b c : C) (r s t : ℕ) → ranked a ≡ Some r → ranked b ≡ Some s → ranked c ≡ Some t → ops.cmp (ops.plus a b) c ≡ nat_cmp (r + s) t

-- What narrows to a word below `most` has that word as its rank.
abbrev pub AreOwnRanks : {C : Type 0} → (C → Option ℕ) → (C → Option ℕ) → ℕ → Type 0
AreOwnRanks {C} narrowed ranked most = (a : C) (w : ℕ) → narrowed a ≡ Some w → w < most → ranked a ≡ Some w
