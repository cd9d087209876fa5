-- Each turn has one row more.
use Rattle.std.proofs.Common.{◌+◌, List, Option, get_or, take, sym, subst, arith}
use Rattle.std.specs.List.{AllZip}
use Rattle.std.proofs.lemmas.List.{take_all}
use Rattle.std.proofs.lemmas.Option.{slice_get-get_or}
use Rattle.list_lemmas.proofs.Fronts.{all_zip-length, all_zip-more}
use Rattle.list_lemmas.proofs.Gets.{get_is}
use Rattle.road_base.specs.declared.segments.Place.{Place}
use Rattle.search_graph.specs.declared.costs.WeightDurLen.{WeightDurLen}
use Rattle.road_walks.specs.Least.{most_units}
use Rattle.road_walks.specs.TableParts.{IsRowByTurns, IsRowWithin}
use Rattle.road_walks.specs.Tables.{AreRowsOf, AreWithin}
use Rattle.road_walks.proofs.TableLemmas.{all_zip-at, rows-least, rows-within}
use Rattle.road_walks.proofs.tables.cost_rows.Goals as goal

-- there is a row for each of the sources
pub index-requires : goal.index-requires
index-requires g c =
    let as_many = all_zip-length (IsRowByTurns c.args.under.now.road c.args.destinations.now) c.args.sources.now c.in_ok-by_turns.by_turns.items c.in_ok-by_turns.ensures in
    omega (arith, as_many, c.loop-number-test.true)

pub row_of-requires-clause-from : goal.row_of-requires-clause-from
row_of-requires-clause-from g c =
    let nowhere : Place = record { segment = 0; at = 0 } in
    let places = c.args.sources.now in
    let k = c.loop-number.number in
    c.requires.sources k (get_or places k nowhere) (slice_get-get_or places k nowhere c.loop-number-test.true)

pub row_of-requires-clause-by_turns : goal.row_of-requires-clause-by_turns
row_of-requires-clause-by_turns g c =
    let road = c.args.under.now.road in
    let nowhere : Place = record { segment = 0; at = 0 } in
    let places = c.args.sources.now in
    let destinations = c.args.destinations.now in
    let rows = c.in_ok-by_turns.by_turns.items in
    let k = c.loop-number.number in
    let as_many = all_zip-length (IsRowByTurns road destinations) places rows c.in_ok-by_turns.ensures in
    let place = get_or places k nowhere in
    subst (λ (row : List (Option WeightDurLen)). IsRowByTurns road destinations place row) (sym c.as_slice-values.ensures)
    (all_zip-at (IsRowByTurns road destinations) places rows k place c.index.result.now c.in_ok-by_turns.ensures
    (slice_get-get_or places k nowhere c.loop-number-test.true)
    (get_is rows k c.index.result.now (omega (arith, as_many, c.loop-number-test.true)) (sym c.index.ensures)))

pub loop-number-preserved : goal.loop-number-preserved
loop-number-preserved g c =
    let road = c.args.under.now.road in
    let nowhere : Place = record { segment = 0; at = 0 } in
    let places = c.args.sources.now in
    let destinations = c.args.destinations.now in
    let k = c.loop-number.number in
    subst (λ (rows : List (List (Option WeightDurLen))). AllZip (IsRowWithin road destinations) (take (k + 1) places) rows) (sym c.in_ok-push.ensures.items)
    (all_zip-more (IsRowWithin road destinations) places c.loop-number.rows.items k (get_or places k nowhere) c.in_ok-row.row c.loop-number.invariant
    (slice_get-get_or places k nowhere c.loop-number-test.true) c.in_ok-row.ensures)

-- at the end all of them have theirs
pub returns-clause-least : goal.returns-clause-least
returns-clause-least g c =
    let road = c.args.under.now.road in
    let sources = c.args.sources.now in
    let destinations = c.args.destinations.now in
    let rows = c.loop-number.rows.items in
    subst (λ (all : List (List (Option WeightDurLen))). AreRowsOf road sources destinations all) (sym c.of.ensures)
    (rows-least road destinations sources rows
    (subst (λ (front : List Place). AllZip (IsRowWithin road destinations) front rows) (take_all c.loop-number.number sources c.loop-number-test.false) c.loop-number.invariant))

pub returns-clause-bound : goal.returns-clause-bound
returns-clause-bound g c =
    let road = c.args.under.now.road in
    let sources = c.args.sources.now in
    let destinations = c.args.destinations.now in
    let rows = c.loop-number.rows.items in
    subst (AreWithin (most_units road.network)) (sym c.of.ensures)
    (rows-within road destinations sources rows
    (subst (λ (front : List Place). AllZip (IsRowWithin road destinations) front rows) (take_all c.loop-number.number sources c.loop-number-test.false) c.loop-number.invariant))
