-- Walks, what they cost, and the least of them.
use Rattle.std.specs.Prelude.{◌≡◌, ℕ, List, [], ◌∷◌, ◌++◌}
use Rattle.std.specs.List.{Contains}
use Rattle.search_graph.specs.declared.ends.Start.{Start}
use Rattle.search_graph.specs.declared.ends.Target.{Target}
use Rattle.search_graph.specs.Costs.{CostOps, NoDearer}
use Rattle.search_graph.specs.Digraph.{Digraph, Weighting, IsOpen, HasArc}

-- a chain of steps from u over the vertices vs, in this order, to z: what is paid grows from c to d
abbrev pub Chain : {C : Type 0} → (ℕ → ℕ → C → C → Type 0) → ℕ → C → List ℕ → ℕ → C → Type 0
Chain S u c [] z d = (z ≡ u) × (d ≡ c)
Chain {C} S u c (v ∷ vs) z d = (e : C) × S u v c e × Chain S v e vs z d

-- a step by a hop from u to v: what is paid grows by what the hop costs
abbrev pub Paying : {C : Type 0} → CostOps C → (ℕ → ℕ → C → Type 0) → ℕ → ℕ → C → C → Type 0
Paying {C} ops Hop u v c d = (s : C) × Hop u v s × (d ≡ ops.plus c s)

-- the hop along an arc from u to the open vertex v costs s: the arc's cost and that of v
abbrev pub IsMove : {C : Type 0} → CostOps C → Digraph → Weighting C → ℕ → ℕ → C → Type 0
IsMove {C} ops g w u v s = (a : C) × (x : C) × HasArc g w u v a × IsOpen w v x × (s ≡ ops.plus a x)

-- a walk from u along arcs over the open vertices vs to z: what is paid grows from c to d
abbrev pub Walk : {C : Type 0} → CostOps C → Digraph → Weighting C → ℕ → C → List ℕ → ℕ → C → Type 0
Walk ops g w = Chain (Paying ops (IsMove ops g w))

-- `walk`, of two or more open vertices along arcs, leads from a start to the target t and costs d:
-- what is paid at the start, all arcs, the vertices in the middle, what is paid at the target
pub record IsBetween {C : Type 0} (ops : CostOps C) (g : Digraph) (w : Weighting C) (starts : List (Start C)) (t : Target C) (walk : List ℕ) (d : C) : Type 0 where
  pub start : Start C
  pub among : Contains starts start
  pub start_open : (x : C) × IsOpen w start.vertex x
  pub middle : List ℕ
  pub last : ℕ
  pub paid : C
  pub goes : Walk ops g w start.vertex start.cost middle last paid
  pub arc : C
  pub joins : HasArc g w last t.vertex arc
  pub target_open : (y : C) × IsOpen w t.vertex y
  pub is_walk : walk ≡ start.vertex ∷ (middle ++ t.vertex ∷ [])
  pub is_cost : d ≡ ops.plus (ops.plus paid arc) t.cost

-- `walk` leads from a start to the target t and costs d, and none that does costs less
pub record IsLeastWalk {C : Type 0} (ops : CostOps C) (g : Digraph) (w : Weighting C) (starts : List (Start C)) (t : Target C) (walk : List ℕ) (d : C) : Type 0 where
  pub leads : IsBetween ops g w starts t walk d
  pub least : (other : List ℕ) (e : C) → IsBetween ops g w starts t other e → NoDearer ops d e

-- no walk leads from a start to the target t
abbrev pub NoneBetween : {C : Type 0} → CostOps C → Digraph → Weighting C → List (Start C) → Target C → Type 0
NoneBetween {C} ops g w starts t = (walk : List ℕ) (d : C) → ¬ IsBetween ops g w starts t walk d
