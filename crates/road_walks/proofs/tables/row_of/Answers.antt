-- Each turn has one cell more.
use Rattle.std.proofs.Common.{◌+◌, List, Option, None, get_or, take, sym, subst, arith}
use Rattle.std.proofs.lemmas.Option.{slice_get-get_or}
use Rattle.list_lemmas.proofs.Fronts.{all_zip-length, all_zip-more}
use Rattle.road_base.specs.declared.segments.Place.{Place}
use Rattle.search_graph.specs.declared.costs.WeightDurLen.{WeightDurLen}
use Rattle.road_walks.specs.TableParts.{IsCellByTurns, IsCellWithin, IsRowWithin}
use Rattle.road_walks.proofs.TableLemmas.{all_zip-at}
use Rattle.road_walks.proofs.tables.row_of.Goals as goal

-- there is a value for each of the destinations
pub bounds-by_turns-column : goal.bounds-by_turns-column
bounds-by_turns-column c =
    let as_many = all_zip-length (IsCellByTurns c.args.under.now.road c.args.from) c.args.destinations.now c.args.by_turns.now c.requires.by_turns in
    omega (arith, as_many, c.loop-column-test.true)

pub cell_of-requires-clause-to : goal.cell_of-requires-clause-to
cell_of-requires-clause-to c =
    let nowhere : Place = record { segment = 0; at = 0 } in
    let places = c.args.destinations.now in
    let k = c.loop-column.column in
    c.requires.destinations k (get_or places k nowhere) (slice_get-get_or places k nowhere c.loop-column-test.true)

pub cell_of-requires-clause-by_turns : goal.cell_of-requires-clause-by_turns
cell_of-requires-clause-by_turns c =
    let nowhere : Place = record { segment = 0; at = 0 } in
    let places = c.args.destinations.now in
    let values = c.args.by_turns.now in
    let k = c.loop-column.column in
    let as_many = all_zip-length (IsCellByTurns c.args.under.now.road c.args.from) places values c.requires.by_turns in
    all_zip-at (IsCellByTurns c.args.under.now.road c.args.from) places values k (get_or places k nowhere) (get_or values k None) c.requires.by_turns
    (slice_get-get_or places k nowhere c.loop-column-test.true) (slice_get-get_or values k None (omega (arith, as_many, c.loop-column-test.true)))

pub loop-column-preserved : goal.loop-column-preserved
loop-column-preserved c =
    let road = c.args.under.now.road in
    let nowhere : Place = record { segment = 0; at = 0 } in
    let places = c.args.destinations.now in
    let k = c.loop-column.column in
    subst (λ (row : List (Option WeightDurLen)). IsRowWithin road (take (k + 1) places) c.args.from row) (sym c.in_ok-push.ensures.items)
    (all_zip-more (IsCellWithin road c.args.from) places c.loop-column.values.items k (get_or places k nowhere) c.in_ok-value.value c.loop-column.invariant
    (slice_get-get_or places k nowhere c.loop-column-test.true) c.in_ok-value.ensures)
