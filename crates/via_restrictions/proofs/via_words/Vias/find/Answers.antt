use Rattle.std.proofs.Common.{◌≡◌, ◌==◌, true, false, arith, sym, ap, ◌∙◌}
use Rattle.std.proofs.lemmas.Bool.Decides.{Decides-eqb, nat_tests}
use Rattle.list_lemmas.proofs.Gets.{get_is}
use Rattle.turn_rules.specs.Rules.{ViaRule}
use Rattle.via_restrictions.specs.ViaWays.{course, first_like}
use Rattle.via_restrictions.proofs.FindLemmas.{finds-again, finds-new}
use Rattle.via_restrictions.proofs.via_words.Vias.find.Goals.{then-branch-i+in_ok-push_course, else-branch-i}
use Rattle.via_restrictions.proofs.via_words.Vias.find.Goals as goal

pub loop-i-preserved : goal.loop-i-preserved
loop-i-preserved c =
    let segments = c.args.self.now.turning.roads.now in
    let kept = c.args.self.now.turning.restrictions.now.kept in
    let all = c.args.self.now.rules.now in
    let i = c.loop-i.i in
    let r = c.index-self-i.result in
    let at = get_is all i r c.loop-i-test.true (sym c.index-self-i.is) in
    let number : c.in_ok-number.field-0 ≡ first_like all (course r) = c.in_ok-number.ensures ∙ ap (λ (x : ViaRule). first_like all (course x)) (sym c.index-self-i.is) in
    elim c.if-branch-i.branch [
      | then-branch-i+in_ok-push_course w ↦
          let new : (first_like all (course r) == i) ≡ true = (Decides-eqb (first_like all (course r)) i).1 (sym number ∙ w.if-branch-i.true) in
          rw (w.groups-is, w.reached-is)
          (finds-new segments kept all i r at c.loop-i.groups.items w.push_course.new.groups.items c.loop-i.reached.ways w.push_course.new.reached.ways c.loop-i.reached.firsts w.push_course.new.reached.firsts new
          (w.in_ok-push_course.ensures.words r at) w.in_ok-push_course.ensures.paths w.in_ok-push_course.ensures.below (w.in_ok-push_course.ensures.reached r at) c.loop-i.invariant)
      | else-branch-i w ↦
          let again : (first_like all (course r) == i) ≡ false = grind (arith, nat_tests, number, w.if-branch-i.false) in
          rw (w.groups-is, w.reached-is) (finds-again segments kept all i r at c.loop-i.groups.items c.loop-i.reached.ways c.loop-i.reached.firsts again c.loop-i.invariant)
    ]

pub count-requires-clause-reached : goal.count-requires-clause-reached
count-requires-clause-reached c = λ k rule lt.
    c.loop-i.invariant.reached k rule (omega (arith, lt, c.loop-i-test.false))
