use Rattle.std.proofs.Common.{◌≡◌, ℕ, ℤ, List, Bool, ◌+◌, ◌-◌, true, false, Some, drop, arith, rules, sym, ap, ◌∙◌, ◌||◌, w64, FitsSigned}
use Rattle.std.specs.HashSet.{contains}
use Rattle.std.specs.List.{items_where_true, slice_get}
use Rattle.std.specs.Ordering.{int_eq}
use Rattle.std.proofs.lemmas.Int.{to_z-of_z}
use Rattle.std.proofs.lemmas.Option.{slice_get-get_or}
use Rattle.list_lemmas.proofs.Gets.{get_some}
use Rattle.turn_rules.specs.Rules.{Rule}
use Rattle.road_turns.specs.RestrictionParts.{has_via}
use Rattle.road_turns.proofs.RuleLemmas.{chosen-off, chosen-on, either, rule-field}
use Rattle.road_turns.proofs.restrictions.nodes_of.Goals as goal

pub loop-i-preserved-in_ok-insert : goal.loop-i-preserved-in_ok-insert
loop-i-preserved-in_ok-insert c = λ node.
    let kept = c.args.rules.now.kept in
    let flags = c.args.applies.now in
    let i = c.loop-i.i - 1 in
    let up : c.loop-i.i ≡ i + 1 = omega arith in
    let r = get_some kept i (omega (arith, c.count-i.ensures)) in
    let on : slice_get flags i ≡ Some true = slice_get-get_or flags i _ (omega (arith, c.requires, c.count-i.ensures)) ∙ ap Some c.if-applies-i.true in
    let via = rule-field (λ rule. rule.via) kept i r.0 c.via.result r.1 c.via.ensures in
    let fits : FitsSigned w64 c.via.result = search rules in
    let updates = simp to_z-of_z at c.in_ok-insert.ensures.updates in
    let was = contains int_eq c.loop-i.nodes node in
    updates.0 node
    ∙ either (int_eq c.via.result node) was
    ∙ ap (λ (z : ℤ). int_eq z node || was) (sym via)
    ∙ ap (λ (b : Bool). int_eq r.0.via node || b) (c.loop-i.invariant node)
    ∙ ap (λ (k : ℕ). int_eq r.0.via node || has_via (items_where_true (drop k flags) (drop k kept)) node) up
    ∙ ap (λ (l : List Rule). has_via l node) (sym (chosen-on kept flags i r.0 r.1 on))

pub loop-i-preserved : goal.loop-i-preserved
loop-i-preserved c = λ node.
    let kept = c.args.rules.now.kept in
    let flags = c.args.applies.now in
    let i = c.loop-i.i - 1 in
    let up : c.loop-i.i ≡ i + 1 = omega arith in
    let r = get_some kept i (omega (arith, c.count-i.ensures)) in
    let off : slice_get flags i ≡ Some false = slice_get-get_or flags i _ (omega (arith, c.requires, c.count-i.ensures)) ∙ ap Some c.if-applies-i.false in
    c.loop-i.invariant node
    ∙ ap (λ (k : ℕ). has_via (items_where_true (drop k flags) (drop k kept)) node) up
    ∙ ap (λ (l : List Rule). has_via l node) (sym (chosen-off kept flags i r.0 r.1 off))

pub returns : goal.returns
returns c = λ node.
    let zero : c.loop-i.i ≡ 0 = omega arith in
    c.loop-i.invariant node ∙ ap (λ (k : ℕ). has_via (items_where_true (drop k c.args.applies.now) (drop k c.args.rules.now.kept)) node) zero
