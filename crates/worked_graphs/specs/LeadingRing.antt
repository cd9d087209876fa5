-- The ring of the tests of rows that lead on: where its cell's row leads, what its places cost, and the space that it is.
use Rattle.std.specs.Prelude.{◌≡◌, ℕ, ◌+◌, ◌%◌, ◌<◌, List, [], ◌∷◌, Option, Some, nat_lt, if◌then◌else◌}
use Rattle.search_graph.specs.declared.costs.WeightDurLen.{WeightDurLen}
use Rattle.step_search.specs.Spaces.{Space}

-- where the cell's row leads
abbrev pub exits : List ℕ
exits = 1 ∷ 2 ∷ []

-- what each of its places costs
abbrev pub through : WeightDurLen
through = record { weight = 2; duration = 2; length = 2 }

-- the lists of a ring: where the row leads, and what its places cost
abbrev pub AreOfLeadingRing : List ℕ → List (Option WeightDurLen) → Type 0
AreOfLeadingRing heads costs = (heads ≡ exits) × (costs ≡ Some through ∷ Some through ∷ [])

-- an arc leads one further; vertices 0, 1 and 2 have one row, which is open at vertex 0 alone
abbrev pub leading_ring : Space WeightDurLen
leading_ring = record {
  vertices = 6;
  May = λ v. v < 6;
  Name = λ u i. i ≡ 0;
  Arc = λ u i v c. (i ≡ 0) × (v ≡ (u + 1) % 6) × (c ≡ record { weight = 3; duration = 3; length = 1 });
  heads = λ u. if nat_lt u 3 then exits else [];
  Costs = λ u j c. (u ≡ 0) × (j < 2) × (c ≡ through);
  row = λ u. if nat_lt u 3 then (1, 0) else (0, 0);
}
