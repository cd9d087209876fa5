-- A row is the last for its nodes where they are those of a way, and is counted where they are not.
use Rattle.std.proofs.Common.{◌≡◌, ℕ, ◌<◌, true, false, None, Some, Option, get_or, length, pos, rules, sym, arith, ap, ◌∙◌, FitsSigned, w64}
use Rattle.std.specs.Prelude.{is_some, option_and_then}
use Rattle.std.specs.List.{slice_get}
use Rattle.std.proofs.lemmas.Int.{to_z-of_z}
use Rattle.std.proofs.lemmas.Option.{slice_get-get_or}
use Rattle.std.proofs.Math.ListN.{length-set}
use Rattle.list_lemmas.proofs.Gets.{get_is}
use Rattle.metric_make.specs.RowsOfWays.{at_place, known, place_of}
use Rattle.metric_make.proofs.WayLemmas.{known-at, known-put, place-known, told-put, told-unmatched}
use Rattle.traffic_files.specs.declared.rows.SpeedRow.{SpeedRow}
use Rattle.metric_make.proofs.rows_of_ways.match_row.Goals as goal
use Rattle.metric_make.proofs.rows_of_ways.match_row.Goals.{in_default-via-in-Some+else-is_some, in_default-via-in_default}

pub returns-in-Some : goal.returns-in-Some
returns-in-Some c vs told =
    let rows = c.args.rows.now in
    let i = c.args.number in
    let found = c.args.found.now in
    let none : SpeedRow = record { from = pos 0; to = pos 0; speed = 0; rate = None } in
    let row : SpeedRow = get_or rows i none in
    let from_fits : FitsSigned w64 (get_or rows i none).from = search rules in
    let to_fits : FitsSigned w64 (get_or rows i none).to = search rules in
    let here : slice_get rows i ≡ Some row = slice_get-get_or rows i none c.requires.number in
    let at : c.place_of.result ≡ place_of found.pairs (row.from, row.to) = simp (to_z-of_z, from_fits, to_fits) at c.place_of.ensures in
    let there : place_of found.pairs (row.from, row.to) ≡ Some c.in-Some.place = sym at ∙ c.in-Some.is in
    let within : c.in-Some.place < length found.last.items = let under = place-known vs (length found.pairs.firsts.items) found.pairs told.paired (row.from, row.to) c.in-Some.place there in omega (arith, told.many, under) in
    let read : slice_get found.last.items c.in-Some.place ≡ Some c.index.result.now = get_is found.last.items c.in-Some.place c.index.result.now within (sym c.index.ensures) in
    let some : is_some (known found.pairs found.last.items (row.from, row.to)) ≡ true = ap is_some (known-at found.pairs found.last.items (row.from, row.to) c.in-Some.place c.index.result.now there read) ∙ sym c.is_some.ensures ∙ c.if-is_some.true in
    told-put vs rows i found told row here _ some (length-set found.last.items c.in-Some.place (Some (Some i)))
    (known-put vs (length found.pairs.firsts.items) found.pairs told.paired (row.from, row.to) c.in-Some.place there found.last.items told.many (Some (Some i)))

pub returns-in_default : goal.returns-in_default
returns-in_default c vs told =
    let rows = c.args.rows.now in
    let i = c.args.number in
    let found = c.args.found.now in
    let none : SpeedRow = record { from = pos 0; to = pos 0; speed = 0; rate = None } in
    let row : SpeedRow = get_or rows i none in
    let from_fits : FitsSigned w64 (get_or rows i none).from = search rules in
    let to_fits : FitsSigned w64 (get_or rows i none).to = search rules in
    let here : slice_get rows i ≡ Some row = slice_get-get_or rows i none c.requires.number in
    let at : c.place_of.result ≡ place_of found.pairs (row.from, row.to) = simp (to_z-of_z, from_fits, to_fits) at c.place_of.ensures in
    told-unmatched vs rows i found told row here (elim c.in_default.branch [
      | in_default-via-in-Some+else-is_some w ↦
          let there : place_of found.pairs (row.from, row.to) ≡ Some w.in-Some.place = sym at ∙ w.in-Some.is in
          let within : w.in-Some.place < length found.last.items = let under = place-known vs (length found.pairs.firsts.items) found.pairs told.paired (row.from, row.to) w.in-Some.place there in omega (arith, told.many, under) in
          let read : slice_get found.last.items w.in-Some.place ≡ Some w.index.result.now = get_is found.last.items w.in-Some.place w.index.result.now within (sym w.index.ensures) in
          ap is_some (known-at found.pairs found.last.items (row.from, row.to) w.in-Some.place w.index.result.now there read) ∙ sym w.is_some.ensures ∙ w.if-is_some.false
      | in_default-via-in_default w ↦ ap is_some (ap (option_and_then (at_place found.last.items)) (sym at ∙ w.in_default.is))
    ])
