use Rattle.std.proofs.Common.{◌≡◌, ℕ, ℤ, ◌+◌, ◌-◌, ◌&&◌, ◌||◌, List, true, false, Some, drop, arith, rules, sym, ap, subst, ◌∙◌, w64, FitsSigned}
use Rattle.std.specs.List.{items_where_true, slice_get}
use Rattle.std.specs.Ordering.{int_eq}
use Rattle.std.proofs.lemmas.Int.{to_z-of_z}
use Rattle.std.proofs.lemmas.Option.{slice_get-get_or}
use Rattle.list_lemmas.proofs.Gets.{get_some}
use Rattle.turn_rules.specs.Rules.{Rule, forbids_onto, is_among}
use Rattle.turn_rules.specs.declared.senses.Sense.{Sense}
use Rattle.road_turns.specs.Decisions.{AreDecisions, decides}
use Rattle.road_turns.specs.Restrictions.{is_forbidden_at}
use Rattle.road_turns.proofs.DecisionLemmas.{rule-step}
use Rattle.road_turns.proofs.RuleLemmas.{chosen-off, rule-field}
use Rattle.road_turns.proofs.decisions.Decisions.of.Goals as goal

pub loop-i-preserved-in-Continue-1 : goal.loop-i-preserved-in-Continue-1
loop-i-preserved-in-Continue-1 c = λ node from to back.
    let kept = c.args.rules.now.kept in
    let flags = c.args.applies.now in
    let i = c.loop-i.i - 1 in
    let up : c.loop-i.i ≡ i + 1 = omega arith in
    let r = get_some kept i (omega (arith, c.count-i.ensures)) in
    let on : slice_get flags i ≡ Some true = slice_get-get_or flags i _ (omega (arith, c.requires, c.count-i.ensures)) ∙ ap Some c.if-applies-i.true in
    let d = decides c.loop-i.decisions.forbidden c.loop-i.decisions.no_u_turn c.loop-i.decisions.only node from to back in
    let was : AreDecisions (items_where_true (drop (i + 1) flags) (drop (i + 1) kept)) c.loop-i.decisions.forbidden c.loop-i.decisions.no_u_turn c.loop-i.decisions.only =
    subst (λ (k : ℕ). AreDecisions (items_where_true (drop k flags) (drop k kept)) c.loop-i.decisions.forbidden c.loop-i.decisions.no_u_turn c.loop-i.decisions.only) up c.loop-i.invariant in
    let via = rule-field (λ rule. rule.via) kept i r.0 c.via.result r.1 c.via.ensures in
    let sense = rule-field (λ rule. rule.sense) kept i r.0 c.sense.result r.1 c.sense.ensures in
    let ways = rule-field (λ rule. rule.from) kept i r.0 c.from-from.result.now r.1 c.from-from.ensures in
    let onto = rule-field (λ rule. rule.to) kept i r.0 c.to-to.result.now r.1 c.to-to.ensures in
    let fits : FitsSigned w64 c.via.result = search rules in
    let says = simp to_z-of_z at c.in_ok-add.ensures in
    rule-step kept flags i r.0 node from to back d _ r.1 on (was node from to back)
    (says node from to back
    ∙ ap (λ (z : ℤ). d || (int_eq z node && (is_among c.from-from.result.now from && forbids_onto c.sense.result c.to-to.result.now from to back))) (sym via)
    ∙ ap (λ (z : List ℤ). d || (int_eq r.0.via node && (is_among z from && forbids_onto c.sense.result c.to-to.result.now from to back))) (sym ways)
    ∙ ap (λ (z : Sense). d || (int_eq r.0.via node && (is_among r.0.from from && forbids_onto z c.to-to.result.now from to back))) (sym sense)
    ∙ ap (λ (z : List ℤ). d || (int_eq r.0.via node && (is_among r.0.from from && forbids_onto r.0.sense z from to back))) (sym onto))

pub loop-i-preserved : goal.loop-i-preserved
loop-i-preserved c = λ node from to back.
    let kept = c.args.rules.now.kept in
    let flags = c.args.applies.now in
    let i = c.loop-i.i - 1 in
    let up : c.loop-i.i ≡ i + 1 = omega arith in
    let r = get_some kept i (omega (arith, c.count-i.ensures)) in
    let off : slice_get flags i ≡ Some false = slice_get-get_or flags i _ (omega (arith, c.requires, c.count-i.ensures)) ∙ ap Some c.if-applies-i.false in
    c.loop-i.invariant node from to back
    ∙ ap (λ (k : ℕ). is_forbidden_at (items_where_true (drop k flags) (drop k kept)) node from to back) up
    ∙ ap (λ (l : List Rule). is_forbidden_at l node from to back) (sym (chosen-off kept flags i r.0 r.1 off))

pub returns : goal.returns
returns c = λ node from to back.
    let zero : c.loop-i.i ≡ 0 = omega arith in
    c.loop-i.invariant node from to back
    ∙ ap (λ (k : ℕ). is_forbidden_at (items_where_true (drop k c.args.applies.now) (drop k c.args.rules.now.kept)) node from to back) zero
