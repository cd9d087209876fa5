-- What a query answers for a target.
use Rattle.std.specs.Prelude.{ℕ, List, ◌++◌, map, Option, MatchOption}
use Rattle.std.specs.List.{Contains}
use Rattle.search_graph.specs.declared.ends.Start.{Start}
use Rattle.search_graph.specs.declared.ends.Target.{Target}
use Rattle.search_graph.specs.Costs.{CostOps, NoDearer}
use Rattle.search_graph.specs.Digraph.{Weighting}
use Rattle.search_graph.specs.Walks.{IsBetween, IsLeastWalk, NoneBetween}
use Rattle.cell_frame.specs.Borders.{Framed}
use Rattle.cell_frame.specs.Free.{free_level}
use Rattle.overlay_query.specs.Packed.{IsPackedBetween, AreBetweenParts}
use Rattle.overlay_query.specs.declared.packed.PackedFound.{PackedFound}

-- the vertices of all starts and all targets
abbrev pub terminals_of : {C : Type 0} → List (Start C) → List (Target C) → List ℕ
terminals_of starts targets = map (λ s. s.vertex) starts ++ map (λ t. t.vertex) targets

-- A cheapest walk to the target t, packed: it leads there at its cost, some walk along arcs costs what it does, none
-- costs less, and none of its arcs is inside a part.
pub record IsPackedLeast {C : Type 0} (ops : CostOps C) (f : Framed) (w : Weighting C) (terminals : List ℕ) (starts : List (Start C)) (t : Target C) (a : PackedFound C) : Type 0 where
  pub leads : IsPackedBetween ops f w starts t a.packed.first a.packed.hops a.cost
  pub walk : (other : List ℕ) × IsBetween ops f.graph w starts t other a.cost
  pub least : (other : List ℕ) (e : C) → IsBetween ops f.graph w starts t other e → NoDearer ops a.cost e
  pub between : AreBetweenParts f.cells (free_level f.cells terminals) a.packed.first a.packed.hops

-- or none exactly where there is no walk
abbrev pub IsPackedFound : {C : Type 0} → CostOps C → Framed → Weighting C → List ℕ → List (Start C) → Target C → Option (PackedFound C) → Type 0
IsPackedFound ops f w terminals starts t answer = MatchOption answer (NoneBetween ops f.graph w starts t) (λ a. IsPackedLeast ops f w terminals starts t a)

-- no walk from a start to one of the targets costs less than d
abbrev pub IsLeastOfAll : {C : Type 0} → CostOps C → Framed → Weighting C → List (Start C) → List (Target C) → C → Type 0
IsLeastOfAll {C} ops f w starts targets d = (t : Target C) (walk : List ℕ) (e : C) → Contains targets t → IsBetween ops f.graph w starts t walk e → NoDearer ops d e

-- A cheapest walk to one of the targets, packed, than which no walk to any of them costs less, or none exactly where there is
-- no walk to any.
abbrev pub IsPackedCheapest : {C : Type 0} → CostOps C → Framed → Weighting C → List ℕ → List (Start C) → List (Target C) → Option (PackedFound C) → Type 0
IsPackedCheapest {C} ops f w terminals starts targets answer = MatchOption answer
    ((t : Target C) → Contains targets t → NoneBetween ops f.graph w starts t)
    (λ a. (t : Target C) × Contains targets t × IsPackedLeast ops f w terminals starts t a × IsLeastOfAll ops f w starts targets a.cost)

-- what a cheapest walk to the target t costs, or none exactly where there is no walk
abbrev pub IsLeastCost : {C : Type 0} → CostOps C → Framed → Weighting C → List (Start C) → Target C → Option C → Type 0
IsLeastCost ops f w starts t value = MatchOption value (NoneBetween ops f.graph w starts t) (λ d. (walk : List ℕ) × IsLeastWalk ops f.graph w starts t walk d)
