-- The places are those that changed; small weights fit their graph.
use Rattle.search_graph.specs.RoadCosts.{road_cost_ops}
use Rattle.cell_recustomize.specs.ChangeLaws.{WereExact-changed}
use Rattle.worked_cells.proofs.cliques.brought_up.Goals as goal

pub recustomize-requires-clause-old : goal.recustomize-requires-clause-old
recustomize-requires-clause-old c =
    rw (c.as_slice-vertices.ensures, c.as_slice-arcs.ensures)
    (WereExact-changed road_cost_ops c.args.frame.now c.args.old.now c.args.new.now c.in_ok-cliques.cliques c.in_ok-places.places.vertices c.in_ok-places.places.arcs c.in_ok-places.ensures.vertices c.in_ok-places.ensures.arcs c.in_ok-cliques.ensures)

pub changed-requires-clause-old : goal.changed-requires-clause-old
changed-requires-clause-old c = rw c.graph.ensures (record { vertices = c.requires.old.vertices; arcs = c.requires.old.arcs })

pub changed-requires-clause-new : goal.changed-requires-clause-new
changed-requires-clause-new c = rw c.graph.ensures (record { vertices = c.requires.new.vertices; arcs = c.requires.new.arcs })
