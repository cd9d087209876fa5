-- For the functions of this crate alone: what the cliques of a level stand on.
use Rattle.std.specs.Prelude.{◌-◌, ℕ, ◌≤◌, List, length}
use Rattle.search_graph.specs.Costs.{CostOps}
use Rattle.search_graph.specs.Digraph.{Weighting}
use Rattle.search_graph.specs.Weighted.{AreSmall}
use Rattle.cell_frame.specs.Borders.{Framed}
use Rattle.cell_frame.specs.Cliqued.{AreExact, CliqueLists}

-- the levels below it have exact cliques
pub record IsReady {C : Type 0} (ops : CostOps C) (f : Framed) (w : Weighting C) (cliques : CliqueLists C) (level : ℕ) : Type 0 where
  pub above : 1 ≤ level
  pub below : level ≤ length f.cells.levels
  pub small : AreSmall ops f.graph w
  pub exact : AreExact ops f w cliques (level - 1)
