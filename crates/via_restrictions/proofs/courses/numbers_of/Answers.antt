use Rattle.std.proofs.Common.{◌≡◌, ℕ, ◌+◌, ◌-◌, drop, length, arith, sym, subst}
use Rattle.list_lemmas.proofs.Gets.{get_is}
use Rattle.via_restrictions.specs.ViaParts.{number_in}
use Rattle.via_restrictions.specs.ViaWays.{first_like}
use Rattle.via_restrictions.proofs.CourseLemmas.{numbers-step}
use Rattle.via_restrictions.proofs.courses.numbers_of.Goals as goal

pub loop-i-preserved : goal.loop-i-preserved
loop-i-preserved c = λ ways.
    let all = c.args.rules.now in
    let i = c.loop-i.i - 1 in
    let up : c.loop-i.i ≡ i + 1 = omega arith in
    let at = get_is all i c.index-rules-i.result (omega arith) (sym c.index-rules-i.is) in
    numbers-step all i c.index-rules-i.result c.loop-i.numbers c.insert.new.self c.in_ok-ways.ways ways at c.in_ok-ways.ensures (c.in_ok-insert.ensures.updates.0 ways)
    (subst (λ (k : ℕ). number_in c.loop-i.numbers (length all) ways ≡ k + first_like (drop k all) ways.items) up (c.loop-i.invariant ways))
