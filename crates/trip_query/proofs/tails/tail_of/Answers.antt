-- The empty set has the end alone; in any other the best step leads on.
use Rattle.std.proofs.Common.{◌≡◌, ℕ, ◌∷◌, ◌^◌, ◌<◌, ◌≤◌, length, None, Some, Vec, Option, slice_index_or, refl, sym, subst, ap, ◌∙◌, arith}
use Rattle.std.specs.Global.{Global}
use Rattle.std.specs.List.{slice_get}
use Rattle.std.proofs.lemmas.Option.{slice_get_read}
use Rattle.trip_query.specs.Tails.{IsFirstStep, IsStep, IsTail, IsWithin, via}
use Rattle.trip_query.specs.Trips.{lists_of}
use Rattle.trip_query.proofs.Choosing.{empty_tail}
use Rattle.trip_query.proofs.Ending.{all_valid, leads, leads_nowhere, nowhere, on}
use Rattle.trip_query.proofs.Reading.{items_read, read_or, row_within}
use Rattle.trip_query.proofs.Tailing.{tails_units}
use Rattle.trip_query.proofs.tails.tail_of.Goals as goal

pub returns-then-set-eq0 : goal.returns-then-set-eq0
returns-then-set-eq0 g c =
    let ends = c.args.paid.now.ends.items in
    let lt : c.args.place < length ends = omega (arith, c.requires.ready.end_each, c.requires.place) in
    subst (λ n. IsTail g.C.Cost.ops (lists_of c.args.paid.now.rows.now) ends n c.args.place c.index.result.now) (sym c.if-set-eq0.true)
    (empty_tail g.met.C.Cost.laws (all_valid g.met.C.Cost.laws c.requires.ready) c.args.place c.index.result.now
    (read_or ends c.args.place c.index.result.now None lt c.index.ensures))

pub first_step-requires-clause-few : goal.first_step-requires-clause-few
first_step-requires-clause-few g c =
    let at = slice_get_read c.args.paid.now.rows.now (length c.args.paid.now.rows.now) c.args.place c.index-paid-place.result refl c.requires.place c.index-paid-place.is in
    let wide = c.requires.ready.square c.args.place c.index-paid-place.result at in
    omega (arith, wide, ap length (items_read c.as_slice-row.ensures.value c.index-paid-place.is), c.requires.ready.few)

pub first_step-requires-clause-wide : goal.first_step-requires-clause-wide
first_step-requires-clause-wide g c =
    let at = slice_get_read c.args.paid.now.rows.now (length c.args.paid.now.rows.now) c.args.place c.index-paid-place.result refl c.requires.place c.index-paid-place.is in
    let wide = c.requires.ready.square c.args.place c.index-paid-place.result at in
    λ i row e. c.requires.tails.wide i row e ∙ sym wide ∙ sym (ap length (items_read c.as_slice-row.ensures.value c.index-paid-place.is))

pub first_step-requires-clause-row : goal.first_step-requires-clause-row
first_step-requires-clause-row g c =
    let at = slice_get_read c.args.paid.now.rows.now (length c.args.paid.now.rows.now) c.args.place c.index-paid-place.result refl c.requires.place c.index-paid-place.is in
    subst (λ r. IsWithin g.C.Cost.ops (2 ^ 27) r) (sym (items_read c.as_slice-row.ensures.value c.index-paid-place.is)) (row_within g.C.Cost.ops (2 ^ 27) c.args.paid.now.rows.now c.args.place c.index-paid-place.result c.requires.ready.units at)

pub first_step-requires-clause-tails : goal.first_step-requires-clause-tails
first_step-requires-clause-tails g c =
    let set = c.requires.set in
    tails_units g.met.C.Cost.laws c.requires.ready (omega (arith, set)) c.requires.tails

pub returns-in-Some : goal.returns-in-Some
returns-in-Some g c =
    let ops = g.C.Cost.ops in
    let laws = g.met.C.Cost.laws in
    let rows = c.args.paid.now.rows.now in
    let ends = c.args.paid.now.ends.items in
    let tails = c.args.tails.now in
    let set = c.args.set in
    let row = c.index-paid-place.result in
    let step = c.in-Some.step in
    let at = slice_get_read rows (length rows) c.args.place row refl c.requires.place c.index-paid-place.is in
    let units = row_within ops (2 ^ 27) rows c.args.place row c.requires.ready.units at in
    let first : IsFirstStep ops (via ops (lists_of tails) set row.items) (length row.items) step = subst (λ r. IsFirstStep ops (via ops (lists_of tails) set r) (length r) step) (items_read c.as_slice-row.ensures.value c.index-paid-place.is) c.in-Some.ensures in
    let filled : set ≤ set = omega arith in
    let some : 0 < set = omega (arith, c.if-set-eq0.false) in
    let l = leads laws c.requires.ready set c.requires.tails filled c.requires.set row.items units (length row.items) step (c.requires.ready.square c.args.place row at) first in
    (step.place ∷ l.rest, on laws c.requires.ready set c.requires.tails filled c.requires.set c.args.place row at units some (step.place ∷ l.rest) step.cost (l.each l.rest l.is_rest))

pub returns-in-None : goal.returns-in-None
returns-in-None g c =
    let ops = g.C.Cost.ops in
    let laws = g.met.C.Cost.laws in
    let rows = c.args.paid.now.rows.now in
    let ends = c.args.paid.now.ends.items in
    let tails = c.args.tails.now in
    let set = c.args.set in
    let row = c.index-paid-place.result in
    let at = slice_get_read rows (length rows) c.args.place row refl c.requires.place c.index-paid-place.is in
    let units = row_within ops (2 ^ 27) rows c.args.place row c.requires.ready.units at in
    let none : IsStep ops (via ops (lists_of tails) set row.items) (length row.items) None = subst (λ r. IsStep ops (via ops (lists_of tails) set r) (length r) None) (items_read c.as_slice-row.ensures.value c.index-paid-place.is) c.in-None.ensures in
    let filled : set ≤ set = omega arith in
    let some : 0 < set = omega (arith, c.if-set-eq0.false) in
    nowhere laws c.requires.ready set c.requires.tails filled c.requires.set c.args.place row at units some
    (leads_nowhere laws c.requires.ready set c.requires.tails filled c.requires.set row.items units (length row.items) (c.requires.ready.square c.args.place row at) none)
