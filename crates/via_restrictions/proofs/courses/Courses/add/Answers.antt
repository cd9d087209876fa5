use Rattle.std.proofs.Common.{rules, sym, ◌∙◌, w64, FitsSigned}
use Rattle.std.proofs.lemmas.Int.{to_z-of_z}
use Rattle.std.proofs.lemmas.Result.{on_ok_weaker}
use Rattle.via_restrictions.proofs.CourseLemmas.{added-first, added-second}
use Rattle.via_restrictions.proofs.courses.Courses.add.Goals as goal

pub returns-then-only-clause-shut : goal.returns-then-only-clause-shut
returns-then-only-clause-shut c =
    let fits : FitsSigned w64 c.to.result = search rules in
    let adds = simp (to_z-of_z, fits) at c.add.ensures.others in
    on_ok_weaker c.add.result (λ more. λ number way.
    added-second c.args.rules.now c.args.rule.now c.in_ok-number.number number way c.to.result c.args.self.now.forbidden.ways c.args.self.now.only.firsts c.add.new.self.firsts
    (sym c.only.ensures ∙ c.if-only.true) c.to.ensures c.in_ok-number.ensures (more number way)) adds

pub returns-else-only-clause-shut : goal.returns-else-only-clause-shut
returns-else-only-clause-shut c =
    let fits : FitsSigned w64 c.to-else-only.result = search rules in
    let adds = simp (to_z-of_z, fits) at c.add-else-only.ensures.ways in
    on_ok_weaker c.add-else-only.result (λ more. λ number way.
    added-first c.args.rules.now c.args.rule.now c.in_ok-number.number number way c.to-else-only.result c.args.self.now.forbidden.ways c.add-else-only.new.self.ways c.args.self.now.only.firsts
    (sym c.only.ensures ∙ c.if-only.false) c.to-else-only.ensures c.in_ok-number.ensures (more number way)) adds
