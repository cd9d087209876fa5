-- Each turn has one list more.
use Rattle.std.proofs.Common.{◌+◌, List, get_or, take, sym, subst}
use Rattle.std.specs.List.{AllZip}
use Rattle.std.proofs.lemmas.Option.{slice_get-get_or}
use Rattle.list_lemmas.proofs.Fronts.{all_zip-more}
use Rattle.road_base.specs.declared.segments.Place.{Place}
use Rattle.search_graph.specs.declared.costs.WeightDurLen.{WeightDurLen}
use Rattle.search_graph.specs.declared.ends.Start.{Start}
use Rattle.road_walks.specs.TableParts.{AreStartsFrom}
use Rattle.road_walks.proofs.table_ends.starts_of.Goals as goal

pub starts_from-requires : goal.starts_from-requires
starts_from-requires c =
    let nowhere : Place = record { segment = 0; at = 0 } in
    let k = c.loop-source.source-index in
    c.requires k (get_or c.args.sources.now k nowhere) (slice_get-get_or c.args.sources.now k nowhere c.loop-source-test.true)

pub loop-source-preserved : goal.loop-source-preserved
loop-source-preserved c =
    let under = c.args.under.now in
    let n = under.frame.graph.vertices in
    let road = under.road in
    let places = c.args.sources.now in
    let nowhere : Place = record { segment = 0; at = 0 } in
    let k = c.loop-source.source-index in
    let place = get_or places k nowhere in
    subst (λ (lists : List (List (Start WeightDurLen))). AllZip (AreStartsFrom n road) (take (k + 1) places) lists) (sym {A = List (List (Start WeightDurLen))} c.in_ok-push.ensures.items)
    (all_zip-more (AreStartsFrom n road) places c.loop-source.lists.items k place c.of.result c.loop-source.invariant
    (slice_get-get_or places k nowhere c.loop-source-test.true)
    (subst (λ (list : List (Start WeightDurLen)). AreStartsFrom n road place list) (sym {A = List (Start WeightDurLen)} c.of.ensures) (record { all = c.in_ok-starts.ensures.all; ordinary = c.in_ok-starts.ensures.ordinary; fit = c.in_ok-starts.ensures.fit })))
