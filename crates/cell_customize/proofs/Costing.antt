-- What a cheapest path costs is what a cheapest walk inside the cell costs.
use Rattle.std.proofs.Common.{◌≡◌, ◌≢◌, ℕ, Option, Some, None, List, [], ◌∷◌}
use Rattle.std.specs.List.{Contains}
use Rattle.search_graph.specs.Costs.{CostOps, CostLaws}
use Rattle.search_graph.specs.declared.ends.Start.{Start}
use Rattle.search_graph.specs.Digraph.{Weighting}
use Rattle.step_search.specs.Paths.{IsLeastPathCost}
use Rattle.cell_frame.specs.declared.cells.Cell.{Cell}
use Rattle.cell_frame.specs.Borders.{Framed, Holds, at_cell}
use Rattle.cell_frame.specs.Cliqued.{CliqueLists}
use Rattle.cell_frame.specs.Inside.{IsInsideValue}
use Rattle.cell_customize.specs.Inner.{inner_space, IsInner}
use Rattle.cell_customize.specs.InnerLaws.{inside_least, inside_none}

pub inside_value : {C : Type 0} {ops : CostOps C} (laws : CostLaws ops) (f : Framed) (w : Weighting C) (cliques : CliqueLists C) (k : Cell) (inner : IsInner ops f w cliques k)
    (entry : ℕ) (among : Contains (at_cell f.entries k) entry) (exit : ℕ) (is : Contains (at_cell f.exits k) exit) (other : entry ≢ exit)
    (starts : List (Start C)) (one : starts ≡ record { vertex = entry; cost = ops.zero } ∷ []) (cost : Option C) →
    IsLeastPathCost ops (inner_space ops f w k) starts exit cost → IsInsideValue ops f.graph w (Holds f.cells k) entry exit cost
inside_value laws f w cliques k inner entry among exit is other starts one None h = inside_none laws f w cliques k inner entry among exit is other starts one h
inside_value laws f w cliques k inner entry among exit is other starts one (Some d) h = inside_least laws f w cliques k inner entry among exit is other starts one h.0 d h.1
