use Rattle.std.proofs.Common.{subst, sym}
use Rattle.std.specs.List.{AllZip}
use Rattle.edge_graph.specs.Sound.{IsSoundNetwork}
use Rattle.road_walks.specs.TableParts.{AreStartsFrom, AreTargetsTo}
use Rattle.road_walks.proofs.TableLemmas.{starts-fit, table-by_turns, targets-fit}
use Rattle.road_walks.proofs.tables.rows_by_turns.Goals as goal

-- the starts and targets fit
pub over_graph-requires-clause-sources : goal.over_graph-requires-clause-sources
over_graph-requires-clause-sources g c κs within =
    let under = c.args.under.now in
    starts-fit under.frame.graph.vertices under.road c.args.sources.now c.deref.result.now
    (subst (AllZip (AreStartsFrom under.frame.graph.vertices under.road) c.args.sources.now) (sym c.deref.ensures.value) c.in_ok-starts.ensures)

pub over_graph-requires-clause-targets : goal.over_graph-requires-clause-targets
over_graph-requires-clause-targets g c κs within =
    let under = c.args.under.now in
    targets-fit under.frame.graph.vertices under.road c.args.destinations.now c.deref-2.result.now
    (subst (AllZip (AreTargetsTo under.frame.graph.vertices under.road) c.args.destinations.now) (sym c.deref-2.ensures.value) c.in_ok-targets.ensures)

-- the cells between the lists are those of the places
pub returns : goal.returns
returns g c =
    let under = c.args.under.now in
    let sound = subst IsSoundNetwork c.network.ensures c.graph-sound.ensures.sound in
    table-by_turns under.road under.frame.graph.vertices c.base-small.ensures.small sound c.base-small.ensures.alike c.args.sources.now c.args.destinations.now c.deref.result.now c.deref-2.result.now c.in_ok-rows.rows.items
    (subst (AllZip (AreStartsFrom under.frame.graph.vertices under.road) c.args.sources.now) (sym c.deref.ensures.value) c.in_ok-starts.ensures)
    (subst (AllZip (AreTargetsTo under.frame.graph.vertices under.road) c.args.destinations.now) (sym c.deref-2.ensures.value) c.in_ok-targets.ensures)
    c.in_ok-rows.ensures
