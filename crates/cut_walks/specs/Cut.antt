-- A graph whose vertices are cut into parts, and the chains that go over it by shortcuts (Delling, Goldberg, Pajor and
-- Werneck, Customizable Route Planning).
use Rattle.std.specs.Prelude.{◌≡◌, ◌≢◌, ℕ, ◌⊎◌, ◌<◌, ◌≤◌, ◌^◌, ◌↔◌, List}
use Rattle.std.specs.List.{Contains}
use Rattle.search_graph.specs.declared.ends.Start.{Start}
use Rattle.search_graph.specs.Costs.{CostOps, NoDearer}
use Rattle.search_graph.specs.Walks.{Chain, Paying}
use Rattle.step_search.specs.Spaces.{Space, HasHop}

-- Hops between vertices, and which vertices share a part. A vertex that is joined with no vertex, and so not with itself,
-- is alone. A shortcut leads from an entry of a part to an exit of it.
pub record Cut (C : Type 0) : Type 1 where
  pub Open : ℕ → Type 0
  pub Hop : ℕ → ℕ → C → Type 0
  pub Joined : ℕ → ℕ → Type 0
  pub Entry : ℕ → Type 0
  pub Exit : ℕ → Type 0
  pub Shortcut : ℕ → ℕ → C → Type 0

-- a hop inside a part
abbrev pub RunHop : {C : Type 0} → Cut C → ℕ → ℕ → C → Type 0
RunHop K u v s = K.Joined u v × K.Hop u v s

-- a hop between parts, or a shortcut through one
abbrev pub OverHop : {C : Type 0} → Cut C → ℕ → ℕ → C → Type 0
OverHop K u v s = ((¬ K.Joined u v) × K.Hop u v s) ⊎ K.Shortcut u v s

-- a chain over the whole, one inside a part, and one over the parts, each from nothing paid
abbrev pub Goes : {C : Type 0} → CostOps C → Cut C → ℕ → List ℕ → ℕ → C → Type 0
Goes ops K u vs z d = Chain (Paying ops K.Hop) u ops.zero vs z d

abbrev pub Runs : {C : Type 0} → CostOps C → Cut C → ℕ → List ℕ → ℕ → C → Type 0
Runs ops K u vs z d = Chain (Paying ops (RunHop K)) u ops.zero vs z d

abbrev pub Passes : {C : Type 0} → CostOps C → Cut C → ℕ → List ℕ → ℕ → C → Type 0
Passes ops K u vs z d = Chain (Paying ops (OverHop K)) u ops.zero vs z d

-- a chain over the parts may begin at a vertex that is alone or an entry of its part
abbrev pub MayBegin : {C : Type 0} → Cut C → ℕ → Type 0
MayBegin K u = K.Open u × ((¬ K.Joined u u) ⊎ (K.Joined u u × K.Entry u))

-- and end at one that is alone or an exit
abbrev pub MayEnd : {C : Type 0} → Cut C → ℕ → Type 0
MayEnd K u = (¬ K.Joined u u) ⊎ K.Exit u

-- What makes it lawful: parts are parts; a hop between parts leads from an exit to an entry; a shortcut costs what the
-- cheapest run from its entry to its exit does, and stands wherever there is a run.
pub record IsCut {C : Type 0} (ops : CostOps C) (K : Cut C) : Type 0 where
  pub joined_or_not : (u v : ℕ) → K.Joined u v ⊎ (¬ K.Joined u v)
  pub back : (u v : ℕ) → K.Joined u v → K.Joined v u
  pub along : (u v w : ℕ) → K.Joined u v → K.Joined v w → K.Joined u w
  pub valid : (u v : ℕ) (s : C) → K.Hop u v s → ops.valid s
  pub arrives : (u v : ℕ) (s : C) → K.Hop u v s → K.Open v
  pub enters : (u v : ℕ) (s : C) → K.Hop u v s → (¬ K.Joined u v) → K.Joined v v → K.Entry v
  pub leaves : (u v : ℕ) (s : C) → K.Hop u v s → (¬ K.Joined u v) → K.Joined u u → K.Exit u
  pub joins : (u v : ℕ) (s : C) → K.Shortcut u v s → K.Joined u v × K.Exit v
  pub stands : (u v : ℕ) (s : C) → K.Shortcut u v s → (vs : List ℕ) × Runs ops K u vs v s
  pub least : (u v : ℕ) (s d : C) (vs : List ℕ) → K.Shortcut u v s → Runs ops K u vs v d → NoDearer ops s d
  pub covers : (u v : ℕ) (d : C) (vs : List ℕ) → K.Open u → K.Entry u → K.Exit v → K.Joined u v → Runs ops K u vs v d → (s : C) × K.Shortcut u v s

-- Its vertices are below n, at most 2^27, and each hop is within two units: one for the way and one for the vertex.
pub record IsSmall {C : Type 0} (ops : CostOps C) (K : Cut C) (n : ℕ) : Type 0 where
  pub few : n ≤ 2 ^ 27
  pub units : (u v : ℕ) (s : C) → K.Hop u v s → ops.units s 2
  pub heads : (u v : ℕ) (s : C) → K.Hop u v s → v < n
  pub within : (u v : ℕ) (s : C) → K.Shortcut u v s → v < n

-- the hops of a space to search are those over the whole
abbrev pub IsWhole : {C : Type 0} → Cut C → Space C → Type 0
IsWhole {C} K S = (u v : ℕ) (s : C) → HasHop S u v s ↔ K.Hop u v s

-- the hops of a space to search are those over the parts
abbrev pub IsOver : {C : Type 0} → Cut C → Space C → Type 0
IsOver {C} K S = (u v : ℕ) (s : C) → HasHop S u v s ↔ OverHop K u v s

-- Starts and a target, each alone. A path over the parts may begin at the starts where one over the whole may.
pub record AreAlone {C : Type 0} (ops : CostOps C) (K : Cut C) (over whole : Space C) (starts : List (Start C)) (target : ℕ) : Type 0 where
  pub paid : (s : Start C) → Contains starts s → ops.valid s.cost
  pub start : (s : Start C) → Contains starts s → ¬ K.Joined s.vertex s.vertex
  pub may : (s : Start C) → Contains starts s → over.May s.vertex ↔ whole.May s.vertex
  pub ends : ¬ K.Joined target target

-- a start, at nothing paid, where a path over the parts may begin, and another vertex where one may end
pub record AreAcross {C : Type 0} (ops : CostOps C) (K : Cut C) (over : Space C) (start : Start C) (z : ℕ) : Type 0 where
  pub free : start.cost ≡ ops.zero
  pub begins : MayBegin K start.vertex
  pub may : over.May start.vertex
  pub ends : MayEnd K z
  pub apart : start.vertex ≢ z
