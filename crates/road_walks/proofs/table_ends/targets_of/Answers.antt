-- Each turn has one list more.
use Rattle.std.proofs.Common.{◌+◌, List, get_or, take, sym, subst}
use Rattle.std.specs.List.{AllZip}
use Rattle.std.proofs.lemmas.Option.{slice_get-get_or}
use Rattle.list_lemmas.proofs.Fronts.{all_zip-more}
use Rattle.road_base.specs.declared.segments.Place.{Place}
use Rattle.search_graph.specs.declared.costs.WeightDurLen.{WeightDurLen}
use Rattle.search_graph.specs.declared.ends.Target.{Target}
use Rattle.road_walks.specs.TableParts.{AreTargetsTo}
use Rattle.road_walks.proofs.table_ends.targets_of.Goals as goal

pub targets_to-requires : goal.targets_to-requires
targets_to-requires c =
    let nowhere : Place = record { segment = 0; at = 0 } in
    let k = c.loop-destination.destination-index in
    c.requires k (get_or c.args.destinations.now k nowhere) (slice_get-get_or c.args.destinations.now k nowhere c.loop-destination-test.true)

pub loop-destination-preserved : goal.loop-destination-preserved
loop-destination-preserved c =
    let under = c.args.under.now in
    let n = under.frame.graph.vertices in
    let road = under.road in
    let places = c.args.destinations.now in
    let nowhere : Place = record { segment = 0; at = 0 } in
    let k = c.loop-destination.destination-index in
    let place = get_or places k nowhere in
    subst (λ (lists : List (List (Target WeightDurLen))). AllZip (AreTargetsTo n road) (take (k + 1) places) lists) (sym {A = List (List (Target WeightDurLen))} c.in_ok-push.ensures.items)
    (all_zip-more (AreTargetsTo n road) places c.loop-destination.lists.items k place c.of.result c.loop-destination.invariant
    (slice_get-get_or places k nowhere c.loop-destination-test.true)
    (subst (λ (list : List (Target WeightDurLen)). AreTargetsTo n road place list) (sym {A = List (Target WeightDurLen)} c.of.ensures) (record { all = c.in_ok-targets.ensures.all; fit = c.in_ok-targets.ensures.fit })))
