-- The vertex's cost is a part of the path's, and what is left is what a walk pays before its target.
use Rattle.overlay_query.proofs.Finding.{query_parts, query_units, query_cost, query_closed}
use Rattle.overlay_query.proofs.query.cost_with.Goals as goal

pub minus-requires : goal.minus-requires
minus-requires g c = query_parts g.met.C.Cost.laws _ _ _ _ _ c.requires.query c.args.target c.requires.target _ _ c.requires.path.1 c.in-Some.cost c.in-Some.ensures

pub plus-requires : goal.plus-requires
plus-requires g c = query_units g.met.C.Cost.laws _ _ _ _ _ c.requires.query c.args.target c.requires.target _ _ c.requires.path.1 c.in-Some.cost c.in-Some.ensures c.minus.result c.minus.ensures.valid c.minus.ensures.rest

pub returns-in-Some : goal.returns-in-Some
returns-in-Some g c = rw c.plus.ensures (query_cost g.met.C.Cost.laws _ _ _ _ _ c.requires.query c.args.target c.requires.target _ _ c.requires.path.1 c.in-Some.cost c.in-Some.ensures c.minus.result c.minus.ensures.valid c.minus.ensures.rest)

pub returns-in-None : goal.returns-in-None
returns-in-None g c = absurd (query_closed g.met.C.Cost.laws _ _ _ _ _ c.requires.query c.args.target c.requires.target _ _ c.requires.path.1.leads c.in-None.ensures)
