use Rattle.std.proofs.Common.{◌≡◌, ℕ, ◌+◌, ◌-◌, drop, arith, sym, subst}
use Rattle.list_lemmas.proofs.Gets.{get_is}
use Rattle.via_restrictions.proofs.CourseLemmas.{AreShutFrom, numbers-kept, shut-none, shut-step}
use Rattle.via_restrictions.proofs.courses.Courses.of.Goals as goal

pub loop-i-init : goal.loop-i-init
loop-i-init c = record {
  numbers = c.in_ok-numbers_of.ensures;
  shut = shut-none c.args.rules.now c.new.result.ways c.new-2.result.firsts c.new.ensures.ways c.new-2.ensures.others;
}

pub loop-i-preserved : goal.loop-i-preserved
loop-i-preserved c =
    let all = c.args.rules.now in
    let i = c.loop-i.i - 1 in
    let up : c.loop-i.i ≡ i + 1 = omega arith in
    let at = get_is all i c.index-rules-i.result (omega arith) (sym c.index-rules-i.is) in
    record {
      numbers = numbers-kept all c.loop-i.courses.numbers c.add.new.self.numbers (sym c.in_ok-add.ensures.numbers) c.loop-i.invariant.numbers;
      shut = shut-step all i c.index-rules-i.result c.loop-i.courses.forbidden.ways c.add.new.self.forbidden.ways c.loop-i.courses.only.firsts c.add.new.self.only.firsts at c.in_ok-add.ensures.shut
          (subst (λ (k : ℕ). AreShutFrom all (drop k all) c.loop-i.courses.forbidden.ways c.loop-i.courses.only.firsts) up c.loop-i.invariant.shut);
    }

pub returns-clause-shut : goal.returns-clause-shut
returns-clause-shut c =
    let zero : c.loop-i.i ≡ 0 = omega arith in
    subst (λ (k : ℕ). AreShutFrom c.args.rules.now (drop k c.args.rules.now) c.loop-i.courses.forbidden.ways c.loop-i.courses.only.firsts) zero c.loop-i.invariant.shut
