use Rattle.std.proofs.Common.{ℕ, ◌++◌, ◌∙◌, List, ap, arith, length, map}
use Rattle.std.proofs.lemmas.List.{take_all}
use Rattle.route_steps.specs.Steps.{pieces, step_between}
use Rattle.route_steps.specs.declared.begins.Begin.{Begin}
use Rattle.route_steps.proofs.CutLemmas.{length-pieces}
use Rattle.route_steps.proofs.ListLemmas.{map-more}
use Rattle.route_steps.proofs.walk_steps.push_steps.Goals as goal

-- one step more
pub loop-k-preserved : goal.loop-k-preserved
loop-k-preserved c =
    let walk = c.args.walk.now in
    let course = c.args.course.now in
    map-more (step_between c.args.network.now walk course.points course.paid course.turns) (pieces c.args.begins.now (length walk)) c.loop-k.k c.piece-end.result
    c.args.steps.now.items c.loop-k.steps.items c.push.new.self.items c.in_ok-step_between.field-0 c.piece-end.ensures c.in_ok-step_between.ensures c.loop-k.invariant c.in_ok-push.ensures.items

-- all of them
pub returns : goal.returns
returns c =
    let walk = c.args.walk.now in
    let course = c.args.course.now in
    let cuts = pieces c.args.begins.now (length walk) in
    c.loop-k.invariant
    ∙ ap (λ (l : List (Begin × ℕ)). c.args.steps.now.items ++ map (step_between c.args.network.now walk course.points course.paid course.turns) l)
    (take_all c.loop-k.k cuts (omega (arith, length-pieces c.args.begins.now (length walk))))
