use Rattle.std.proofs.Common.{◌≡◌, ℤ, length, arith, rules, sym, ap, ◌∙◌, w64, FitsSigned, to_z, of_z}
use Rattle.std.proofs.lemmas.Int.{to_z-of_z}
use Rattle.road_turns.specs.Leaving.{leaving_at, open_exits}
use Rattle.road_turns.proofs.CountLemmas.{counts-put}
use Rattle.road_turns.proofs.turn_counts.open_count.Goals as goal

pub returns-in-Some-clause-value : goal.returns-in-Some-clause-value
returns-in-Some-clause-value c = c.requires.counts c.args.end.0 c.args.end.1 c.in-Some.count.now (sym c.in-Some.ensures.value)

pub returns-clause-counts : goal.returns-clause-counts
returns-clause-counts c =
    let kept = c.args.restrictions.now.kept in
    let runs = c.args.leaving.now.runs in
    let fits_node : FitsSigned w64 c.args.end.0 = search rules in
    let fits_way : FitsSigned w64 c.args.end.1 = search rules in
    let its : c.in_ok-row.row.items ≡ open_exits kept c.args.end.0 c.args.end.1 (leaving_at runs c.args.end.0) =
    c.in_ok-row.ensures
    ∙ ap (λ (z : ℤ). open_exits kept z (to_z w64 (of_z w64 c.args.end.1)) (leaving_at runs z)) (to_z-of_z w64 c.args.end.0 fits_node)
    ∙ ap (λ (z : ℤ). open_exits kept c.args.end.0 z (leaving_at runs c.args.end.0)) (to_z-of_z w64 c.args.end.1 fits_way) in
    counts-put kept runs c.args.counts.now c.insert.new.self c.args.end c.len-count.result c.requires.counts (omega (arith, c.len-count.ensures, ap length its)) c.in_ok-insert.ensures.updates.0

pub returns-clause-value : goal.returns-clause-value
returns-clause-value c =
    let kept = c.args.restrictions.now.kept in
    let runs = c.args.leaving.now.runs in
    let fits_node : FitsSigned w64 c.args.end.0 = search rules in
    let fits_way : FitsSigned w64 c.args.end.1 = search rules in
    let its : c.in_ok-row.row.items ≡ open_exits kept c.args.end.0 c.args.end.1 (leaving_at runs c.args.end.0) =
    c.in_ok-row.ensures
    ∙ ap (λ (z : ℤ). open_exits kept z (to_z w64 (of_z w64 c.args.end.1)) (leaving_at runs z)) (to_z-of_z w64 c.args.end.0 fits_node)
    ∙ ap (λ (z : ℤ). open_exits kept c.args.end.0 z (leaving_at runs c.args.end.0)) (to_z-of_z w64 c.args.end.1 fits_way) in
    omega (arith, c.len-count.ensures, ap length its)
