-- All arcs out of the node are gone along.
use Rattle.step_search.proofs.dijkstra.Search.expand_arcs.Goals as goal

pub returns-clause-found : goal.returns-clause-found
returns-clause-found g c i w s h = c.in_ok-go_along.ensures.found i w s (c.arcs_named-arcs.ensures.all i w s h) h
