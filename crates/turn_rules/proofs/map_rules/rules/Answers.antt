use Rattle.std.proofs.Common.{◌∙◌, ◌+◌, ◌∷◌, ◌≡◌, [], IfSome, Option, Some, ap, arith, length, length-append, subst, sym, take}
use Rattle.std.proofs.lemmas.List.Elements.{All-push}
use Rattle.turn_rules.specs.Rules.{HasVias, RulesView, ViaRule, restriction_in, rule_of, via_rule_of}
use Rattle.turn_rules.proofs.RuleLemmas.{AreChosen, AreChosen-none, AreChosen-first, AreChosen-second, AreChosen-neither}
use Rattle.turn_rules.proofs.ViaLemmas.{via_rule_of-none}
use Rattle.turn_rules.proofs.map_rules.rules.Goals.{in-Some+in_ok-restriction+in-Some-2+in_ok-push, in-Some+in_ok-restriction+in_default-2+in_ok-restriction-2+in-Some-3+in_ok-push-2, in-Some+in_ok-restriction+in_default-2+in_ok-restriction-2+in_default-3, in_default}
use Rattle.turn_rules.proofs.map_rules.rules.Goals as goal

pub loop-object-preserved : goal.loop-object-preserved
loop-object-preserved c =
    let before : AreChosen (restriction_in c.args.vehicle.now) rule_of via_rule_of (take c.loop-object.object-index c.args.objects.now) c.loop-object.kept.items c.loop-object.along.items c.loop-object.ignored =
    record { first = c.loop-object.invariant.kept; second = c.loop-object.invariant.along; others = c.loop-object.invariant.ignored } in
    elim c.match-restriction_in.branch [
      | in-Some+in_ok-restriction+in-Some-2+in_ok-push w ↦
          let its : Some w.in-Some-2.restriction ≡ rule_of w.in-Some.relation.now = sym w.in-Some-2.is ∙ w.in_ok-restriction.ensures in
          let after : AreChosen (restriction_in c.args.vehicle.now) rule_of via_rule_of (take (c.loop-object.object-index + 1) c.args.objects.now) w.push.new.self.items c.loop-object.along.items c.loop-object.ignored =
          rw w.in_ok-push.ensures.items (AreChosen-first _ _ _ _ _ _ _ _ _ _ _ before (omega arith) c.object-item.is w.in-Some.ensures its (via_rule_of-none w.in-Some.relation.now _ its)) in
          record { kept = rw w.kept-is after.first; along = rw w.along-is after.second; ignored = rw w.ignored-is after.others; vias = rw w.along-is c.loop-object.invariant.vias; few = rw w.kept-is (rw w.along-is (rw w.ignored-is (rw w.in_ok-push.ensures.items (omega (arith, length-append c.loop-object.kept.items (w.in-Some-2.restriction ∷ []), c.loop-object.invariant.few))))) }
      | in-Some+in_ok-restriction+in_default-2+in_ok-restriction-2+in-Some-3+in_ok-push-2 w ↦
          let its : Some w.in-Some-3.restriction ≡ via_rule_of w.in-Some.relation.now = sym w.in-Some-3.is ∙ w.in_ok-restriction-2.ensures.value in
          let few : HasVias w.in-Some-3.restriction = subst (λ (o : Option ViaRule). IfSome o HasVias) w.in-Some-3.is w.in_ok-restriction-2.ensures.vias in
          let after : AreChosen (restriction_in c.args.vehicle.now) rule_of via_rule_of (take (c.loop-object.object-index + 1) c.args.objects.now) c.loop-object.kept.items w.push-in-Some-3.new.self.items c.loop-object.ignored =
          rw w.in_ok-push-2.ensures.items (AreChosen-second _ _ _ _ _ _ _ _ _ _ _ before (omega arith) c.object-item.is w.in-Some.ensures (sym w.in_default-2.is ∙ w.in_ok-restriction.ensures) its) in
          record { kept = rw w.kept-is after.first; along = rw w.along-is after.second; ignored = rw w.ignored-is after.others; vias = rw w.along-is (rw w.in_ok-push-2.ensures.items (All-push HasVias _ _ c.loop-object.invariant.vias few)); few = rw w.kept-is (rw w.along-is (rw w.ignored-is (rw w.in_ok-push-2.ensures.items (omega (arith, length-append c.loop-object.along.items (w.in-Some-3.restriction ∷ []), c.loop-object.invariant.few))))) }
      | in-Some+in_ok-restriction+in_default-2+in_ok-restriction-2+in_default-3 w ↦
          let after : AreChosen (restriction_in c.args.vehicle.now) rule_of via_rule_of (take (c.loop-object.object-index + 1) c.args.objects.now) c.loop-object.kept.items c.loop-object.along.items (c.loop-object.ignored + 1) =
          AreChosen-neither _ _ _ _ _ _ _ _ _ _ before (omega arith) c.object-item.is w.in-Some.ensures (sym w.in_default-2.is ∙ w.in_ok-restriction.ensures) (sym w.in_default-3.is ∙ w.in_ok-restriction-2.ensures.value) in
          record { kept = rw w.kept-is after.first; along = rw w.along-is after.second; ignored = rw w.ignored-is after.others; vias = rw w.along-is c.loop-object.invariant.vias; few = rw w.kept-is (rw w.along-is (rw w.ignored-is (omega (arith, c.loop-object.invariant.few)))) }
      | in_default w ↦
          let after : AreChosen (restriction_in c.args.vehicle.now) rule_of via_rule_of (take (c.loop-object.object-index + 1) c.args.objects.now) c.loop-object.kept.items c.loop-object.along.items c.loop-object.ignored =
          AreChosen-none _ _ _ _ _ _ _ _ _ before (omega arith) c.object-item.is w.in_default.ensures in
          record { kept = rw w.kept-is after.first; along = rw w.along-is after.second; ignored = rw w.ignored-is after.others; vias = rw w.along-is c.loop-object.invariant.vias; few = rw w.kept-is (rw w.along-is (rw w.ignored-is (omega (arith, c.loop-object.invariant.few)))) }
    ]

pub returns-clause-few : goal.returns-clause-few
returns-clause-few c = omega (arith, ap (λ (r : RulesView). length r.kept + length r.along + r.ignored) c.of-2.ensures)
