-- A search inside one cell, over the cells one level down: by it cells are customized, and shortcuts unpacked.
use Rattle.std.specs.Prelude.{◌-◌, List}
use Rattle.search_graph.specs.Costs.{CostOps}
use Rattle.search_graph.specs.Digraph.{Weighting}
use Rattle.step_search.specs.Spaces.{Space}
use Rattle.cell_frame.specs.declared.cells.Cell.{Cell}
use Rattle.cell_frame.specs.Borders.{Framed, IsFramed, Holds, IsCell}
use Rattle.cell_frame.specs.Cliqued.{AreExact, CliqueLists}
use Rattle.cell_frame.specs.Parts.{AreBordersBelow}
use Rattle.cell_frame.specs.PartSpace.{part_space, IsLawful}
use Rattle.search_graph.specs.Weighted.{AreSmall}

-- what it goes over: the inside of the cell, by the cliques one level down
abbrev pub inner_space : {C : Type 0} → CostOps C → Framed → Weighting C → Cell → Space C
inner_space ops f w k = part_space ops f w (Holds f.cells k) (λ v. k.level - 1)

-- what it stands on: small weights, exact cliques below the cell, and parts that make a lawful cut of it
pub record IsInner {C : Type 0} (ops : CostOps C) (f : Framed) (w : Weighting C) (cliques : CliqueLists C) (k : Cell) : Type 0 where
  pub framed : IsFramed f
  pub small : AreSmall ops f.graph w
  pub exact : AreExact ops f w cliques (k.level - 1)
  pub is_cell : IsCell f.cells k
  pub lawful : IsLawful ops f w (Holds f.cells k) (λ v. k.level - 1)
  pub borders : AreBordersBelow f.graph f.cells k
