-- The least of costs.
use Rattle.std.specs.Prelude.{◌≡◌, ◌⊎◌, Option, Some, None, MatchOption}
use Rattle.search_graph.specs.Costs.{CostOps, NoDearer}

-- of the costs of which P holds the value is the least, or none exactly where P holds of no cost
abbrev pub IsLeastAmong : {C : Type 0} → CostOps C → (C → Type 0) → Option C → Type 0
IsLeastAmong {C} ops P value = MatchOption value ((d : C) → ¬ P d) (λ c. P c × ((d : C) → P d → NoDearer ops c d))

-- of two costs the lesser, where there are any
abbrev pub IsLesserOf : {C : Type 0} → CostOps C → Option C → Option C → Option C → Type 0
IsLesserOf ops None b result = result ≡ b
IsLesserOf ops (Some a) None result = result ≡ Some a
IsLesserOf ops (Some a) (Some b) result = ((result ≡ Some a) × NoDearer ops a b) ⊎ ((result ≡ Some b) × NoDearer ops b a)
