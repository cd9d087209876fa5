-- Directed graphs with weights on vertices and arcs.
use Rattle.std.specs.Prelude.{◌≡◌, ℕ, List, Option, Some}
use Rattle.std.specs.List.{slice_get}

-- A directed graph: arc i leads from the first to the second of its pair. Between two vertices may stand several arcs.
pub record Digraph : Type 0 where
  pub vertices : ℕ
  pub arcs : List (ℕ × ℕ)

-- What each vertex and each arc costs. A vertex without a cost is closed.
pub record Weighting (C : Type 0) : Type 0 where
  pub vertex : List (Option C)
  pub arc : List C

-- arc i leads from u to v
abbrev pub IsArc : Digraph → ℕ → ℕ → ℕ → Type 0
IsArc g i u v = slice_get g.arcs i ≡ Some (u, v)

-- arc i leaves u
abbrev pub Leaves : Digraph → ℕ → ℕ → Type 0
Leaves g i u = (v : ℕ) × IsArc g i u v

-- vertex v is open and costs x
abbrev pub IsOpen : {C : Type 0} → Weighting C → ℕ → C → Type 0
IsOpen w v x = slice_get w.vertex v ≡ Some (Some x)

-- an arc from u to v costs a
abbrev pub HasArc : {C : Type 0} → Digraph → Weighting C → ℕ → ℕ → C → Type 0
HasArc {C} g w u v a = (i : ℕ) × IsArc g i u v × (slice_get w.arc i ≡ Some a)
