-- What a search goes over: a space of vertices and hops between them, and the paths through it.
use Rattle.std.specs.Prelude.{◌≡◌, ℕ, ◌<◌, ◌^◌, ◌⊎◌, Some, List}
use Rattle.std.specs.List.{Contains, slice_get}
use Rattle.search_graph.specs.Costs.{CostOps, NoDearer}
use Rattle.search_graph.specs.Walks.{Chain, Paying}

-- The vertices are those below `vertices`, and a path may begin at those of `May`.
-- Out of u lead hops of two kinds: by the arcs that `Name` names, `Arc u i v s` from u by arc i to v at the cost s,
-- and by the places of a row: place j of `heads u` is where it leads, and `Costs u j s` says that it costs s; a place
-- without a cost is closed. `row u` is a name of the row out of u.
-- What a hop costs has the cost of the vertex that it leads to in it.
pub record Space (C : Type 0) : Type 1 where
  pub vertices : ℕ
  pub May : ℕ → Type 0
  pub Name : ℕ → ℕ → Type 0
  pub Arc : ℕ → ℕ → ℕ → C → Type 0
  pub heads : ℕ → List ℕ
  pub Costs : ℕ → ℕ → C → Type 0
  pub row : ℕ → ℕ × ℕ

-- a hop of either kind leads from u to v at the cost s
abbrev pub HasHop : {C : Type 0} → Space C → ℕ → ℕ → C → Type 0
HasHop {C} S u v s = ((i : ℕ) × S.Arc u i v s) ⊎ ((j : ℕ) × (slice_get (S.heads u) j ≡ Some v) × S.Costs u j s)

-- place j of the rows of this name leads to v
abbrev pub IsHeadAt : {C : Type 0} → Space C → ℕ × ℕ → ℕ → ℕ → Type 0
IsHeadAt S name j v = (u : ℕ) × (u < S.vertices) × (S.row u ≡ name) × (slice_get (S.heads u) j ≡ Some v)

-- the row out of v has this name and no costs, and v has these arcs: nothing else leads out of it
pub record LeadsBy {C : Type 0} (S : Space C) (name : ℕ × ℕ) (v : ℕ) (arcs : List ℕ) : Type 0 where
  pub row : name ≡ S.row v
  pub no_costs : (j : ℕ) (s : C) → ¬ S.Costs v j s
  pub named : (i : ℕ) → Contains arcs i → S.Name v i
  pub all : (i w : ℕ) (s : C) → S.Arc v i w s → Contains arcs i

-- a hop from u to v: what is paid grows from c to d by what the hop costs
abbrev pub StepBy : {C : Type 0} → CostOps C → Space C → ℕ → ℕ → C → C → Type 0
StepBy ops S = Paying ops (HasHop S)

-- hops from u over the vertices vs, in this order, to z: what is paid grows from c to d
abbrev pub Path : {C : Type 0} → CostOps C → Space C → ℕ → C → List ℕ → ℕ → C → Type 0
Path ops S = Chain (StepBy ops S)

-- no path of the same ends is cheaper than d
abbrev pub IsLeastCost : {C : Type 0} → CostOps C → Space C → ℕ → ℕ → C → Type 0
IsLeastCost {C} ops S u z d = (vs : List ℕ) (e : C) → Path ops S u ops.zero vs z e → NoDearer ops d e

-- What a search needs of its space, so that its sums fit: hops lead to vertices and cost at most 2^29 units,
-- and what a cheapest path costs is within 2^28 units.
pub record IsSpace {C : Type 0} (ops : CostOps C) (S : Space C) : Type 0 where
  pub heads : (u v : ℕ) (s : C) → HasHop S u v s → v < S.vertices
  pub hop_units : (u v : ℕ) (s : C) → HasHop S u v s → ops.units s (2 ^ 29)
  pub least_units : (u z : ℕ) (d : C) (vs : List ℕ) → S.May u → Path ops S u ops.zero vs z d → IsLeastCost ops S u z d → ops.units d (2 ^ 28)
