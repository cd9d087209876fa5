-- Cliques that are exact for weights serve other weights, where it is known at which places these differ.
use Rattle.std.specs.Prelude.{List, length, ℕ}
use Rattle.search_graph.specs.Costs.{CostOps}
use Rattle.search_graph.specs.Digraph.{Weighting}
use Rattle.cell_recustomize.specs.Changes.{AreChanges}
use Rattle.cell_frame.specs.Borders.{Framed}
use Rattle.cell_frame.specs.Cliqued.{AreExact, CliqueLists}
use Rattle.cell_recustomize.specs.Touched.{WereExact}

pub WereExact-changed : {C : Type 0} (ops : CostOps C) (f : Framed) (before after : Weighting C) (cliques : CliqueLists C) (vertices arcs : List ℕ) →
    AreChanges before.vertex after.vertex vertices → AreChanges before.arc after.arc arcs → AreExact ops f before cliques (length f.cells.levels) → WereExact ops f after cliques vertices arcs
WereExact-changed ops f before after cliques vertices arcs in_vertices in_arcs exact = (before, record { vertex = in_vertices.others; arc = in_arcs.others }, exact)
