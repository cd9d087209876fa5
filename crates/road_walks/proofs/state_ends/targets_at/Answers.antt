use Rattle.std.proofs.Common.{List, subst}
use Rattle.std.specs.List.{Contains}
use Rattle.search_graph.specs.declared.costs.WeightDurLen.{WeightDurLen}
use Rattle.search_graph.specs.declared.ends.Target.{Target}
use Rattle.road_walks.specs.Searched.{IsTargetIn}
use Rattle.road_walks.specs.StateLaws.{state-is}
use Rattle.road_walks.proofs.KeptLemmas.{are_all-kept, has-kept}
use Rattle.road_walks.proofs.StateLemmas.{targets-kept}
use Rattle.road_walks.proofs.state_ends.targets_at.Goals as goal

-- all targets to the place that stand at the state are kept
pub returns-clause-all : goal.returns-clause-all
returns-clause-all c =
    let road = c.args.under.now.road in
    targets-kept road c.args.to c.args.state (state-is road.network c.args.to c.requires.placed c.args.state c.requires.state).within c.keep_targets.new.targets.items
    (are_all-kept (λ (t : Target WeightDurLen). t.vertex) c.args.state (IsTargetIn road c.args.to) c.in_ok-targets.targets.items c.keep_targets.new.targets.items c.in_ok-targets.ensures.all c.keep_targets.ensures)

pub returns-clause-fit : goal.returns-clause-fit
returns-clause-fit c = λ t h.
    let had = has-kept (λ (x : Target WeightDurLen). x.vertex) c.args.state c.in_ok-targets.targets.items t (subst (λ (list : List (Target WeightDurLen)). Contains list t) c.keep_targets.ensures h) in
    c.in_ok-targets.ensures.fit t had.0
