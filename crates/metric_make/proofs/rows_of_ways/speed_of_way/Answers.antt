-- What stands at the place of a permitted vertex is the last row for its nodes.
use Rattle.std.proofs.Common.{◌≡◌, None, Some, sym, ap, ◌∙◌}
use Rattle.std.specs.Prelude.{option_map}
use Rattle.std.proofs.lemmas.Int.{to_z-of_z}
use Rattle.std.proofs.lemmas.Option.{none-some, same_Some}
use Rattle.metric_make.specs.RowsOfWays.{place, row_of}
use Rattle.metric_make.specs.TrafficRows.{speed_for}
use Rattle.metric_make.proofs.WayLemmas.{way-row}
use Rattle.metric_make.proofs.rows_of_ways.speed_of_way.Goals as goal

pub returns-in_err-index : goal.returns-in_err-index
returns-in_err-index c =
    let placed : c.place.result ≡ place c.index-first.result.now (c.args.tail, c.args.head) = simp (to_z-of_z, c.ranges.tail, c.ranges.head) at c.place.ensures in
    let row = way-row c.requires.0 c.args.rows.now c.args.found.now c.requires.6 c.args.v c.requires.1 c.requires.2 c.requires.3 c.args.tail c.args.head c.requires.4 c.requires.5
    c.index-first.result.now c.place.result c.index.result.now c.index-first.ensures placed c.index.ensures in
    absurd (none-some (speed_for c.args.rows.now c.args.tail c.args.head) (ap (option_map (row_of c.args.rows.now)) (sym c.in_err-index.was) ∙ row))

pub returns-in_err-branch : goal.returns-in_err-branch
returns-in_err-branch c =
    let placed : c.place.result ≡ place c.index-first.result.now (c.args.tail, c.args.head) = simp (to_z-of_z, c.ranges.tail, c.ranges.head) at c.place.ensures in
    let row = way-row c.requires.0 c.args.rows.now c.args.found.now c.requires.6 c.args.v c.requires.1 c.requires.2 c.requires.3 c.args.tail c.args.head c.requires.4 c.requires.5
    c.index-first.result.now c.place.result c.index.result.now c.index-first.ensures placed c.index.ensures in
    c.from_residual-in_err-branch.ensures ∙ same_Some (row_of c.args.rows.now None) (speed_for c.args.rows.now c.args.tail c.args.head)
    (ap (option_map (row_of c.args.rows.now)) (sym (c.in_ok-index.was ∙ ap Some c.in_err-branch.was)) ∙ row)

pub returns : goal.returns
returns c =
    let placed : c.place.result ≡ place c.index-first.result.now (c.args.tail, c.args.head) = simp (to_z-of_z, c.ranges.tail, c.ranges.head) at c.place.ensures in
    let row = way-row c.requires.0 c.args.rows.now c.args.found.now c.requires.6 c.args.v c.requires.1 c.requires.2 c.requires.3 c.args.tail c.args.head c.requires.4 c.requires.5
    c.index-first.result.now c.place.result c.index.result.now c.index-first.ensures placed c.index.ensures in
    c.row_at.ensures ∙ same_Some (row_of c.args.rows.now (Some c.in_ok-branch.field-0)) (speed_for c.args.rows.now c.args.tail c.args.head)
    (ap (option_map (row_of c.args.rows.now)) (sym (c.in_ok-index.was ∙ ap Some c.in_ok-branch.was)) ∙ row)
