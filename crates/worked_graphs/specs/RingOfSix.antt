-- The ring of the tests of searches: where its rows lead, what their places cost, and the space that it is.
use Rattle.std.specs.Prelude.{◌≡◌, ◌≢◌, ℕ, ◌+◌, ◌%◌, ◌<◌, List, [], ◌∷◌, Option, Some}
use Rattle.std.specs.List.{slice_range}
use Rattle.search_graph.specs.declared.costs.WeightDurLen.{WeightDurLen}
use Rattle.step_search.specs.Spaces.{Space}

-- where each vertex's row leads
abbrev pub six : List ℕ
six = 2 ∷ 3 ∷ 4 ∷ 5 ∷ 0 ∷ 1 ∷ []

-- the lists of a ring: where each row leads, and what its place costs
abbrev pub AreOfRing : List ℕ → List (Option WeightDurLen) → Type 0
AreOfRing heads costs = (heads ≡ six) × (costs ≡ Some (record { weight = 5; duration = 5; length = 2 }) ∷ [])

-- vertex 3 is closed; an arc leads one further, and a row of one place, closed at vertex 1, two further
abbrev pub ring_of_six : Space WeightDurLen
ring_of_six = record {
  vertices = 6;
  May = λ v. (v < 6) × (v ≢ 3);
  Name = λ u i. i ≡ 0;
  Arc = λ u i v c. (i ≡ 0) × (v ≡ (u + 1) % 6) × (v ≢ 3) × (c.weight ≡ 3) × (c.duration ≡ 3) × (c.length ≡ 1);
  heads = λ u. slice_range six u (u + 1);
  Costs = λ u j c. (j ≡ 0) × (u ≢ 1) × (c.weight ≡ 5) × (c.duration ≡ 5) × (c.length ≡ 2);
  row = λ u. (0, u);
}
