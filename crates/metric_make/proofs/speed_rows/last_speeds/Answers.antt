-- A row more is the last one for its nodes, and one more for them.
use Rattle.std.proofs.Common.{◌≡◌, ℤ, ◌≤◌, cond, None, Some, List, get_or, length, take, pos, ◌∙◌, ap, arith, rules, FitsSigned, w64}
use Rattle.std.specs.Prelude.{count_by}
use Rattle.std.specs.HashMap.{get}
use Rattle.std.specs.List.{slice_get}
use Rattle.std.proofs.lemmas.Int.{to_z-of_z}
use Rattle.std.proofs.lemmas.List.{length-take, take_all}
use Rattle.std.proofs.lemmas.List.Sums.{count_by-le-length}
use Rattle.std.proofs.lemmas.Option.{slice_get-get_or}
use Rattle.metric_make.specs.LastRows.{added, pair_eq, waiting}
use Rattle.metric_make.specs.TrafficRows.{last_where}
use Rattle.metric_make.proofs.LastRowLemmas.{counted-push, last-push, told-begun, pair_eq-itself, pair_eq-same}
use Rattle.traffic_files.specs.declared.rows.SpeedRow.{SpeedRow}
use Rattle.metric_make.proofs.speed_rows.last_speeds.Goals as goal

pub add_row-requires-clause-few : goal.add_row-requires-clause-few
add_row-requires-clause-few c =
    let rows = c.args.rows.now in
    let i = c.loop-i.i in
    let none : SpeedRow = record { from = pos 0; to = pos 0; speed = 0; rate = None } in
    let row : SpeedRow = get_or rows i none in
    let from_fits : FitsSigned w64 (get_or rows i none).from = search rules in
    let to_fits : FitsSigned w64 (get_or rows i none).to = search rules in
    let bound : waiting (get pair_eq c.loop-i.entries (row.from, row.to)) ≤ c.loop-i.i =
    omega (arith, c.loop-i.invariant.counted (row.from, row.to), count_by-le-length (λ r. pair_eq (r.from, r.to) (row.from, row.to)) (take i rows), length-take i rows) in
    simp (to_z-of_z, from_fits, to_fits) bound

pub loop-i-preserved : goal.loop-i-preserved
loop-i-preserved c =
    let rows = c.args.rows.now in
    let i = c.loop-i.i in
    let none : SpeedRow = record { from = pos 0; to = pos 0; speed = 0; rate = None } in
    let row : SpeedRow = get_or rows i none in
    let from_fits : FitsSigned w64 (get_or rows i none).from = search rules in
    let to_fits : FitsSigned w64 (get_or rows i none).to = search rules in
    let updates : (q : ℤ × ℤ) → get pair_eq c.add_row.new.entries q ≡ cond (pair_eq (row.from, row.to) q) (Some (added i (get pair_eq c.loop-i.entries (row.from, row.to)))) (get pair_eq c.loop-i.entries q) =
    λ q. simp (to_z-of_z, from_fits, to_fits) at (c.in_ok-add_row.ensures q) in
    let here : slice_get rows i ≡ Some row = slice_get-get_or rows i none (omega arith) in
    record {
      last = last-push pair_eq pair_eq-same pair_eq-itself (λ r. (r.from, r.to)) rows c.loop-i.entries c.add_row.new.entries i row here updates c.loop-i.invariant.last;
      counted = counted-push pair_eq pair_eq-same pair_eq-itself (λ r. (r.from, r.to)) rows c.loop-i.entries c.add_row.new.entries i row here updates c.loop-i.invariant.counted;
    }

pub returns : goal.returns
returns c =
    let rows = c.args.rows.now in
    let all : c.from.result ≡ length c.args.rows.now = c.from.ensures ∙ c.in_ok-count.ensures in
    let whole : take c.loop-i.i rows ≡ rows = take_all c.loop-i.i rows (omega (arith, c.loop-i-test.false, c.in_ok-count.ensures)) in
    told-begun pair_eq pair_eq-same pair_eq-itself (λ r. (r.from, r.to)) rows c.loop-i.entries c.from.result all
    (λ q. c.loop-i.invariant.last q ∙ ap (λ (l : List SpeedRow). last_where (λ r. pair_eq (r.from, r.to) q) l) whole)
    (λ q. c.loop-i.invariant.counted q ∙ ap (λ (l : List SpeedRow). count_by (λ r. pair_eq (r.from, r.to) q) l) whole)
