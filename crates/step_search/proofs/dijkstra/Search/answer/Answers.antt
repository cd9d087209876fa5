-- The target's label is the least cost, and the trail of its node the walk; with no label there is no path.
use Rattle.std.proofs.Common.{Some, List, ◌<◌, length, sym, subst}
use Rattle.std.proofs.lemmas.Option.{slice_get_within}
use Rattle.step_search.specs.Progress.{IsBackward, IsTrail}
use Rattle.step_search.specs.declared.dijkstra.Node.{Node}
use Rattle.step_search.proofs.Answered.{done_none, least_path}
use Rattle.step_search.proofs.Trails.{backward}
use Rattle.step_search.proofs.dijkstra.Search.answer.Goals as goal

pub walk_to-requires-clause-backward : goal.walk_to-requires-clause-backward
walk_to-requires-clause-backward g c =
    subst (λ t. IsBackward t) (sym c.as_slice.ensures.value) (backward g.C.Cost.ops (g.T.Steps.space c.args.steps.now) c.args.starts.now c.args.self.now.tree.items c.requires.under_way.tree)

pub walk_to-requires-clause-in_range : goal.walk_to-requires-clause-in_range
walk_to-requires-clause-in_range g c =
    let m = c.requires.under_way.front.labelled c.args.target c.in-Some.label (sym c.in-Some.ensures) in
    subst (λ t. c.in-Some.label.node < length t) (sym c.as_slice.ensures.value) (slice_get_within c.args.self.now.tree.items c.in-Some.label.node m.0 m.1)

pub returns-in-None : goal.returns-in-None
returns-in-None g c =
    done_none g.C.Cost.ops (g.T.Steps.space c.args.steps.now) c.args.starts.now c.args.self.now c.requires.under_way c.args.target c.requires.done (sym c.in-None.ensures)

pub returns-in_ok-push-in-Some : goal.returns-in_ok-push-in-Some
returns-in_ok-push-in-Some g c =
    least_path g.C.Cost.ops (g.T.Steps.space c.args.steps.now) c.args.starts.now c.args.self.now c.requires.under_way c.args.target c.requires.done c.in-Some.label (sym c.in-Some.ensures)
    c.in_ok-walk-in-Some.ensures.0 c.in_ok-walk-in-Some.walk.items c.push.new.self.items
    (subst (λ (t : List (Node g.row.C.Denot)). IsTrail t (Some c.in-Some.label.node) c.in_ok-walk-in-Some.ensures.0) c.as_slice.ensures.value c.in_ok-walk-in-Some.ensures.1)
    c.in_ok-walk-in-Some.ensures.2 c.in_ok-push-in-Some.ensures.items
