use Rattle.std.proofs.Common.{◌≡◌, ℕ, ℤ, List, ◌++◌, Some, rules, sym, ap, ◌∙◌, w64, FitsSigned, to_z, of_z}
use Rattle.std.proofs.lemmas.Int.{to_z-of_z}
use Rattle.road_turns.specs.Leaving.{leaving_at, open_exits}
use Rattle.std.specs.HashMap.{get}
use Rattle.std.proofs.lemmas.Result.{on_ok_weaker}
use Rattle.road_turns.specs.RestrictionParts.{pair_eq}
use Rattle.road_turns.specs.TurnParts.{turns_onto}
use Rattle.road_turns.proofs.TurnLemmas.{rows-put}
use Rattle.road_turns.proofs.turn_lists.push_open.Goals as goal

pub returns-in-Some-clause-turns : goal.returns-in-Some-clause-turns
returns-in-Some-clause-turns c =
    let at : get pair_eq c.args.rows.now (c.args.end.0, c.args.end.1) ≡ Some c.in-Some.row.now = sym c.in-Some.ensures.value in
    on_ok_weaker c.push_row.result
    (λ h. h ∙ ap (λ (l : List ℕ). c.args.turns.now.items ++ turns_onto c.args.v l) (c.deref.ensures.value ∙ c.requires.rows c.args.end.0 c.args.end.1 c.in-Some.row.now at))
    c.push_row.ensures

pub returns-clause-rows : goal.returns-clause-rows
returns-clause-rows c =
    let kept = c.args.restrictions.now.kept in
    let runs = c.args.leaving.now.runs in
    let fits_node : FitsSigned w64 c.args.end.0 = search rules in
    let fits_way : FitsSigned w64 c.args.end.1 = search rules in
    let its : c.in_ok-row.row.items ≡ open_exits kept c.args.end.0 c.args.end.1 (leaving_at runs c.args.end.0) =
    c.in_ok-row.ensures
    ∙ ap (λ (z : ℤ). open_exits kept z (to_z w64 (of_z w64 c.args.end.1)) (leaving_at runs z)) (to_z-of_z w64 c.args.end.0 fits_node)
    ∙ ap (λ (z : ℤ). open_exits kept c.args.end.0 z (leaving_at runs c.args.end.0)) (to_z-of_z w64 c.args.end.1 fits_way) in
    rows-put kept runs c.args.rows.now c.insert.new.self c.args.end c.in_ok-row.row c.requires.rows its c.in_ok-insert.ensures.updates.0
