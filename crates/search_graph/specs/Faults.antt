-- When a list of arcs is refused.
use Rattle.std.specs.Prelude.{◌≡◌, ℕ, ◌<◌, ◌≤◌, ◌⊎◌, List, Some}
use Rattle.std.specs.List.{slice_get}
use Rattle.search_graph.specs.declared.adjacency.GraphFault.{GraphFault}
use Rattle.search_graph.specs.declared.adjacency.GraphFault.TheVariants.{BadArc, Memory}

-- both ends of each arc are vertices
abbrev pub AllInRange : ℕ → List (ℕ × ℕ) → Type 0
AllInRange n arcs = (i u v : ℕ) → slice_get arcs i ≡ Some (u, v) → (u < n) × (v < n)

-- arc i is the first that names a vertex out of range
abbrev pub IsFirstBad : ℕ → List (ℕ × ℕ) → ℕ → Type 0
IsFirstBad n arcs i = ((u : ℕ) × (v : ℕ) × (slice_get arcs i ≡ Some (u, v)) × ((n ≤ u) ⊎ (n ≤ v))) × ((k u v : ℕ) → k < i → slice_get arcs k ≡ Some (u, v) → (u < n) × (v < n))

-- the fault's cause; want of memory has none
abbrev pub IsGraphFault : ℕ → List (ℕ × ℕ) → GraphFault → Type 0
IsGraphFault n arcs (BadArc i) = IsFirstBad n arcs i
IsGraphFault n arcs Memory = Unit {0}
