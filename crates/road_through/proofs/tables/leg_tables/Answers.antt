-- Each turn has one table more.
use Rattle.std.proofs.Common.{◌+◌, ◌≤◌, List, get_or, length, subst, arith}
use Rattle.std.specs.List.{AllZip}
use Rattle.std.proofs.lemmas.List.{take_all}
use Rattle.road_base.specs.declared.segments.Place.{Place}
use Rattle.road_walks.specs.Legs.{legs_of}
use Rattle.road_through.specs.States.{IsTableOf}
use Rattle.road_through.proofs.LegLemmas.{beside-more, pair-at, pairs-count}
use Rattle.road_through.proofs.tables.leg_tables.Goals as goal

pub loop-leg-preserved : goal.loop-leg-preserved
loop-leg-preserved g c =
    let road = c.args.under.now.road in
    let places = c.args.places.now in
    let k = c.loop-leg.leg in
    let nowhere : Place = record { segment = 0; at = 0 } in
    let test = c.loop-leg-test.true in
    beside-more (IsTableOf road) (legs_of places) c.loop-leg.tables.items _ k (get_or places k nowhere, get_or places (k + 1) nowhere) c.in_ok-table.table c.in_ok-push.ensures.items c.loop-leg.invariant
    (pair-at places k nowhere (omega (arith, test))) c.in_ok-table.ensures

-- at the end all legs have theirs
pub returns : goal.returns
returns g c =
    let road = c.args.under.now.road in
    let legs = legs_of c.args.places.now in
    let tables = c.loop-leg.tables.items in
    let count = pairs-count c.args.places.now in
    let all : length legs ≤ c.loop-leg.leg = omega (arith, count) in
    subst (λ (front : List (Place × Place)). AllZip (IsTableOf road) front tables) (take_all c.loop-leg.leg legs all) c.loop-leg.invariant
