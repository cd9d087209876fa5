-- Small weights fit their graph.
use Rattle.worked_cells.proofs.changes.changes_told.Goals as goal

pub changed-requires-clause-old : goal.changed-requires-clause-old
changed-requires-clause-old c = record { vertices = c.in_ok-old.ensures.small.vertices; arcs = c.in_ok-old.ensures.small.arcs }

pub changed-requires-clause-new : goal.changed-requires-clause-new
changed-requires-clause-new c = record { vertices = c.in_ok-new.ensures.small.vertices; arcs = c.in_ok-new.ensures.small.arcs }
