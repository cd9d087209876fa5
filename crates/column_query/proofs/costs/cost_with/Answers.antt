-- The vertex's cost is a part of the path's, and what is left is what a walk pays before its target.
use Rattle.column_query.proofs.Costing.{never_closed, vertex_paid, target_units, least_walk}
use Rattle.column_query.proofs.costs.cost_with.Goals as goal

pub minus-requires : goal.minus-requires
minus-requires g c = vertex_paid g.met.C.Cost.laws _ _ _ _ _ c.requires.ready c.args.target c.requires.unit _ _ c.requires.path.1 c.in-Some.cost c.in-Some.ensures

pub plus-requires : goal.plus-requires
plus-requires g c = target_units g.met.C.Cost.laws _ _ _ _ _ c.requires.ready c.args.target c.requires.unit _ _ c.requires.path.1 c.in-Some.cost c.in-Some.ensures c.minus.result c.minus.ensures.valid c.minus.ensures.rest

pub returns-in-Some : goal.returns-in-Some
returns-in-Some g c = (c.requires.path.0, rw c.plus.ensures (least_walk g.met.C.Cost.laws _ _ _ _ _ c.requires.ready c.args.target c.requires.unit _ _ c.requires.path.1 c.in-Some.cost c.in-Some.ensures c.minus.result c.minus.ensures.valid c.minus.ensures.rest))

pub returns-in-None : goal.returns-in-None
returns-in-None g c = absurd (never_closed g.met.C.Cost.laws _ _ _ _ _ c.requires.ready c.args.target c.requires.unit _ _ c.requires.path.1 c.in-None.ensures)
