use Rattle.std.proofs.Common.{subst, sym}
use Rattle.std.specs.List.{AllZip}
use Rattle.road_walks.specs.Between.{states_of}
use Rattle.road_walks.specs.BetweenParts.{AreStartsAt, AreTargetsAt}
use Rattle.road_walks.proofs.BetweenLemmas.{state_starts-fit, state_targets-fit, table-between}
use Rattle.road_walks.proofs.state_costs.rows_by_turns.Goals as goal

-- the starts and targets fit
pub over_graph-requires-clause-sources : goal.over_graph-requires-clause-sources
over_graph-requires-clause-sources g c κs within =
    let under = c.args.under.now in
    state_starts-fit under.road under.frame.graph.vertices c.args.from c.args.to c.deref.result.now
    (subst (AllZip (AreStartsAt under.frame.graph.vertices under.road c.args.from) (states_of under.road.network c.args.from)) (sym c.deref.ensures.value) c.in_ok-starts.ensures)

pub over_graph-requires-clause-targets : goal.over_graph-requires-clause-targets
over_graph-requires-clause-targets g c κs within =
    let under = c.args.under.now in
    state_targets-fit under.road under.frame.graph.vertices c.args.from c.args.to c.deref-2.result.now
    (subst (AllZip (AreTargetsAt under.frame.graph.vertices under.road c.args.to) (states_of under.road.network c.args.to)) (sym c.deref-2.ensures.value) c.in_ok-targets.ensures)

-- the cells between the lists are those of the states
pub returns : goal.returns
returns g c =
    let under = c.args.under.now in
    table-between under.road under.frame.graph.vertices c.args.from c.args.to c.deref.result.now c.deref-2.result.now c.in_ok-rows.rows.items
    (subst (AllZip (AreStartsAt under.frame.graph.vertices under.road c.args.from) (states_of under.road.network c.args.from)) (sym c.deref.ensures.value) c.in_ok-starts.ensures)
    (subst (AllZip (AreTargetsAt under.frame.graph.vertices under.road c.args.to) (states_of under.road.network c.args.to)) (sym c.deref-2.ensures.value) c.in_ok-targets.ensures)
    c.in_ok-rows.ensures
