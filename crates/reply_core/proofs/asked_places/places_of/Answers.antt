use Rattle.std.proofs.Common.{◌+◌, ◌≤◌, ap, length, sym, subst, take, List, arith}
use Rattle.std.specs.List.{AllZip}
use Rattle.std.proofs.lemmas.List.{take_all}
use Rattle.list_lemmas.proofs.Fronts.{all_zip-more}
use Rattle.road_base.specs.declared.coordinates.Point.{Point}
use Rattle.road_base.specs.declared.segments.Place.{Place}
use Rattle.snap_index.specs.declared.filters.Filter.{Filter}
use Rattle.road_walks.specs.FirstFailure.{first_failure}
use Rattle.reply_core.specs.Asked.{asked_in}
use Rattle.reply_core.specs.Lacks.{HasPlace, LacksPlace}
use Rattle.reply_core.proofs.AnswerLemmas.{IsFoundFor, are-placed, are-snapped, asked-count}
use Rattle.reply_core.proofs.asked_places.places_of.Goals as goal

-- the first without a place
pub returns-in-None-clause-err : goal.returns-in-None-clause-err
returns-in-None-clause-err c =
    let road = c.args.under.now.road in
    first_failure (IsFoundFor road) (HasPlace road) (LacksPlace road) (asked_in c.args.request.now) c.loop-number.places.items c.loop-number.number c.asked_at.result (λ a b r. (b, r.0)) c.loop-number.invariant c.asked_at.ensures c.in-None.ensures.value

-- one place more
pub loop-number-preserved : goal.loop-number-preserved
loop-number-preserved c =
    let road = c.args.under.now.road in
    let asked = asked_in c.args.request.now in
    let n = c.loop-number.number in
    subst (λ (places : List Place). AllZip (IsFoundFor road) (take (n + 1) asked) places) (sym c.in_ok-push-in-Some.ensures.items)
    (all_zip-more (IsFoundFor road) asked c.loop-number.places.items n c.asked_at.result c.in-Some.place c.loop-number.invariant c.asked_at.ensures (c.in-Some.ensures.value, c.in-Some.ensures.placed))

-- all places
pub returns-clause-snapped : goal.returns-clause-snapped
returns-clause-snapped c =
    let road = c.args.under.now.road in
    let asked = asked_in c.args.request.now in
    let count = asked-count c.args.request.now c.requires.radiuses c.requires.bearings in
    let same = ap (length {A = Point}) c.as_slice-count.ensures in
    let all : length asked ≤ c.loop-number.number = omega (arith, count, same) in
    are-snapped road asked c.loop-number.places.items
    (subst (λ (front : List (Point × Filter)). AllZip (IsFoundFor road) front c.loop-number.places.items) (take_all c.loop-number.number asked all) c.loop-number.invariant)

pub returns-clause-placed : goal.returns-clause-placed
returns-clause-placed c =
    let road = c.args.under.now.road in
    are-placed road (take c.loop-number.number (asked_in c.args.request.now)) c.loop-number.places.items c.loop-number.invariant
