-- A row more is the last one for its nodes, and one more for them.
use Rattle.std.proofs.Common.{◌≡◌, ℤ, ◌≤◌, cond, None, Some, List, get_or, length, take, pos, ◌∙◌, ap, arith, rules, FitsSigned, w64}
use Rattle.std.specs.Prelude.{count_by}
use Rattle.std.specs.HashMap.{get}
use Rattle.std.specs.List.{slice_get}
use Rattle.std.proofs.lemmas.Int.{to_z-of_z}
use Rattle.std.proofs.lemmas.List.{length-take, take_all}
use Rattle.std.proofs.lemmas.List.Sums.{count_by-le-length}
use Rattle.std.proofs.lemmas.Option.{slice_get-get_or}
use Rattle.metric_make.specs.LastRows.{added, triple_eq, waiting}
use Rattle.metric_make.specs.TrafficRows.{last_where}
use Rattle.metric_make.proofs.LastRowLemmas.{counted-push, last-push, told-begun, triple_eq-itself, triple_eq-same}
use Rattle.traffic_files.specs.declared.rows.TurnRow.{TurnRow}
use Rattle.metric_make.proofs.turn_rows.last_turns.Goals as goal

pub add_row-requires-clause-few : goal.add_row-requires-clause-few
add_row-requires-clause-few c =
    let rows = c.args.rows.now in
    let i = c.loop-i.i in
    let none : TurnRow = record { from = pos 0; via = pos 0; to = pos 0; penalty = 0; weight = None } in
    let row : TurnRow = get_or rows i none in
    let from_fits : FitsSigned w64 (get_or rows i none).from = search rules in
    let via_fits : FitsSigned w64 (get_or rows i none).via = search rules in
    let to_fits : FitsSigned w64 (get_or rows i none).to = search rules in
    let bound : waiting (get triple_eq c.loop-i.entries (row.from, row.via, row.to)) ≤ c.loop-i.i =
    omega (arith, c.loop-i.invariant.counted (row.from, row.via, row.to), count_by-le-length (λ r. triple_eq (r.from, r.via, r.to) (row.from, row.via, row.to)) (take i rows), length-take i rows) in
    simp (to_z-of_z, from_fits, via_fits, to_fits) bound

pub loop-i-preserved : goal.loop-i-preserved
loop-i-preserved c =
    let rows = c.args.rows.now in
    let i = c.loop-i.i in
    let none : TurnRow = record { from = pos 0; via = pos 0; to = pos 0; penalty = 0; weight = None } in
    let row : TurnRow = get_or rows i none in
    let from_fits : FitsSigned w64 (get_or rows i none).from = search rules in
    let via_fits : FitsSigned w64 (get_or rows i none).via = search rules in
    let to_fits : FitsSigned w64 (get_or rows i none).to = search rules in
    let updates : (q : ℤ × ℤ × ℤ) → get triple_eq c.add_row.new.entries q ≡ cond (triple_eq (row.from, row.via, row.to) q) (Some (added i (get triple_eq c.loop-i.entries (row.from, row.via, row.to)))) (get triple_eq c.loop-i.entries q) =
    λ q. simp (to_z-of_z, from_fits, via_fits, to_fits) at (c.in_ok-add_row.ensures q) in
    let here : slice_get rows i ≡ Some row = slice_get-get_or rows i none (omega arith) in
    record {
      last = last-push triple_eq triple_eq-same triple_eq-itself (λ r. (r.from, r.via, r.to)) rows c.loop-i.entries c.add_row.new.entries i row here updates c.loop-i.invariant.last;
      counted = counted-push triple_eq triple_eq-same triple_eq-itself (λ r. (r.from, r.via, r.to)) rows c.loop-i.entries c.add_row.new.entries i row here updates c.loop-i.invariant.counted;
    }

pub returns : goal.returns
returns c =
    let rows = c.args.rows.now in
    let all : c.from.result ≡ length c.args.rows.now = c.from.ensures ∙ c.in_ok-count.ensures in
    let whole : take c.loop-i.i rows ≡ rows = take_all c.loop-i.i rows (omega (arith, c.loop-i-test.false, c.in_ok-count.ensures)) in
    told-begun triple_eq triple_eq-same triple_eq-itself (λ r. (r.from, r.via, r.to)) rows c.loop-i.entries c.from.result all
    (λ q. c.loop-i.invariant.last q ∙ ap (λ (l : List TurnRow). last_where (λ r. triple_eq (r.from, r.via, r.to) q) l) whole)
    (λ q. c.loop-i.invariant.counted q ∙ ap (λ (l : List TurnRow). count_by (λ r. triple_eq (r.from, r.via, r.to) q) l) whole)
