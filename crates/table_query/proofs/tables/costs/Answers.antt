-- The points that were made are those of all targets, in their order.
use Rattle.std.proofs.Common.{◌<◌, arith, length, ◌∙◌}
use Rattle.std.proofs.lemmas.Bool.Decides.{nat_tests}
use Rattle.std.proofs.lemmas.Result.{IfOk-weaker}
use Rattle.table_query.proofs.Pointed.{least-of-points, length-points, made-points, point-columns, point-fits}
use Rattle.table_query.proofs.tables.costs.Goals as goal

pub costs_by_columns-requires-clause-targets : goal.costs_by_columns-requires-clause-targets
costs_by_columns-requires-clause-targets g c =
    let o = c.args.columns.now.overlay.now in
    let points = c.args.columns.now.points.now in
    let some : 0 < length points = grind (arith, nat_tests, c.is_empty.ensures, c.if-is_empty.false) in
    point-fits g.C.Cost.ops o.frame.now o.weights.now c.args.columns.now.all.now points (made-points g.C.Cost.ops o.frame.now o.weights.now c.args.columns.now.all.now points c.requires.ready.made some)
    (λ t. (t.vertex < o.frame.now.graph.vertices) × g.C.Cost.ops.units t.cost 1) c.requires.ready.fit

pub costs_by_columns-requires-clause-columns : goal.costs_by_columns-requires-clause-columns
costs_by_columns-requires-clause-columns g c =
    let o = c.args.columns.now.overlay.now in
    let points = c.args.columns.now.points.now in
    let some : 0 < length points = grind (arith, nat_tests, c.is_empty.ensures, c.if-is_empty.false) in
    point-columns g.C.Cost.ops o.frame.now o.weights.now c.args.columns.now.all.now points (made-points g.C.Cost.ops o.frame.now o.weights.now c.args.columns.now.all.now points c.requires.ready.made some)

pub returns-clause-one_each : goal.returns-clause-one_each
returns-clause-one_each g c =
    let o = c.args.columns.now.overlay.now in
    let points = c.args.columns.now.points.now in
    let some : 0 < length points = grind (arith, nat_tests, c.is_empty.ensures, c.if-is_empty.false) in
    let are = made-points g.C.Cost.ops o.frame.now o.weights.now c.args.columns.now.all.now points c.requires.ready.made some in
    IfOk-weaker c.costs_by_columns.result _ _ (λ costs size. size ∙ length-points g.C.Cost.ops o.frame.now o.weights.now c.args.columns.now.all.now points are) c.costs_by_columns.ensures.one_each

pub returns-clause-least : goal.returns-clause-least
returns-clause-least g c =
    let o = c.args.columns.now.overlay.now in
    let points = c.args.columns.now.points.now in
    let some : 0 < length points = grind (arith, nat_tests, c.is_empty.ensures, c.if-is_empty.false) in
    let are = made-points g.C.Cost.ops o.frame.now o.weights.now c.args.columns.now.all.now points c.requires.ready.made some in
    IfOk-weaker c.costs_by_columns.result _ _ (λ costs least. least-of-points g.C.Cost.ops o.frame.now o.weights.now c.args.columns.now.all.now points are c.args.starts.now costs.items least) c.costs_by_columns.ensures.least
