-- What it means that a walk stands for a packed one (unpacking, as Delling, Goldberg, Pajor and Werneck have it).
use Rattle.std.specs.Prelude.{ℕ, List}
use Rattle.std.specs.List.{Contains}
use Rattle.search_graph.specs.declared.ends.Start.{Start}
use Rattle.search_graph.specs.declared.ends.Target.{Target}
use Rattle.search_graph.specs.Costs.{CostOps}
use Rattle.search_graph.specs.Digraph.{Weighting}
use Rattle.search_graph.specs.Walks.{IsBetween}
use Rattle.cell_frame.specs.Borders.{Framed}
use Rattle.overlay_query.specs.declared.packed.Hop.{Hop}
use Rattle.overlay_query.specs.Packed.{IsPackedBetween}

-- it is a packed walk: it leads from some start to some target, at some cost
abbrev pub IsPackedWalk : {C : Type 0} → CostOps C → Framed → Weighting C → ℕ → List Hop → Type 0
IsPackedWalk {C} ops f w first hops = (starts : List (Start C)) × (t : Target C) × (d : C) × IsPackedBetween ops f w starts t first hops d

-- The walk stands for the packed one: from whatever starts, to whatever target and at whatever cost that leads, so does
-- the walk, where what is paid at the starts is valid.
abbrev pub StandsFor : {C : Type 0} → CostOps C → Framed → Weighting C → ℕ → List Hop → List ℕ → Type 0
StandsFor {C} ops f w first hops walk = (starts : List (Start C)) (t : Target C) (d : C) → ((s : Start C) → Contains starts s → ops.valid s.cost) →
    IsPackedBetween ops f w starts t first hops d → IsBetween ops f.graph w starts t walk d
