-- The target of a number is one of all, and no other has that number.
use Rattle.std.proofs.Common.{◌∙◌, subst, sym}
use Rattle.std.proofs.lemmas.Option.{same_Some, slice_get-get_or}
use Rattle.std.proofs.lemmas.Result.{IfOk-weaker}
use Rattle.list_lemmas.proofs.Gets.{Contains_get}
use Rattle.search_graph.specs.declared.ends.Target.{Target}
use Rattle.table_query.specs.Columns.{IsPoint}
use Rattle.table_query.proofs.points.PointsJob.item.Goals as goal

pub point-requires-clause-target : goal.point-requires-clause-target
point-requires-clause-target g c =
    let all = c.args.self.now.all.now in
    let at = slice_get-get_or all c.args.number c.index-self-number.result c.requires.number in
    c.requires.ready.1 _ (Contains_get all c.args.number _ at)

pub returns : goal.returns
returns g c =
    let o = c.args.self.now.overlay.now in
    let at = slice_get-get_or c.args.self.now.all.now c.args.number c.index-self-number.result c.requires.number in
    IfOk-weaker c.point.result _ _ (λ point is t there. subst (λ (t : Target _). IsPoint g.C.Cost.ops o.frame.now o.weights.now t point) (same_Some _ t (sym at ∙ there)) is) c.point.ensures
