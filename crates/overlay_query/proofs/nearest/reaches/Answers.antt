-- The limit is within the bounds of sums, and beyond it no walk costs less than the best so far.
use Rattle.std.proofs.Common.{subst}
use Rattle.std.proofs.lemmas.Bool.{OnFalse_at, OnFalse_from}
use Rattle.step_search.specs.Paths.{IsBeyond}
use Rattle.overlay_query.specs.Query.{query_space}
use Rattle.overlay_query.proofs.Targets.{limit_units, NoneBelow-limit, NoneBelow-closed}
use Rattle.overlay_query.proofs.nearest.reaches.Goals as goal

pub plus-limit-requires : goal.plus-limit-requires
plus-limit-requires g c =
    limit_units g.met.C.Cost.laws _ _ _ _ _ c.requires.query c.in-Some.best (rw c.in-Some.is at c.requires.best) c.args.target c.requires.target c.in-Some-vertex.cost c.in-Some-vertex.ensures

pub returns-in_ok-done-in-Some-vertex-clause-behind : goal.returns-in_ok-done-in-Some-vertex-clause-behind
returns-in_ok-done-in-Some-vertex-clause-behind g c =
    let S = query_space g.C.Cost.ops c.args.over.now.frame.now c.args.over.now.weights.now c.args.over.now.parts.now.vertices.items in
    rw c.in-Some.is (OnFalse_from _ _ (λ e. NoneBelow-limit g.met.C.Cost.laws _ _ _ _ _ c.requires.query c.in-Some.best (rw c.in-Some.is at c.requires.best) c.args.target c.requires.target c.in-Some-vertex.cost c.in-Some-vertex.ensures
    (subst (λ x. IsBeyond g.C.Cost.ops S c.args.starts.now c.args.target.vertex x) c.plus-limit.ensures (OnFalse_at e c.in_ok-done-in-Some-vertex.ensures.beyond))))

pub returns-in-None-clause-behind : goal.returns-in-None-clause-behind
returns-in-None-clause-behind g c =
    rw c.in-Some.is (NoneBelow-closed g.met.C.Cost.laws c.args.over.now.frame.now c.args.over.now.weights.now c.args.over.now.parts.now.vertices.items c.args.starts.now c.args.target c.in-Some.best.cost c.in-None.ensures)
