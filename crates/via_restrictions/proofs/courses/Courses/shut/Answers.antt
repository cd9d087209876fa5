use Rattle.std.proofs.Common.{◌||◌, Bool, sym, ap, ◌∙◌}
use Rattle.std.proofs.lemmas.Int.{to_z-of_z}
use Rattle.via_restrictions.specs.WaySets.{has_other}
use Rattle.via_restrictions.proofs.courses.Courses.shut.Goals as goal

pub returns-then-has : goal.returns-then-has
returns-then-has c =
    let says = simp (to_z-of_z, c.ranges.way) at c.has.ensures in
    c.if-has.true ∙ ap (λ (b : Bool). b || has_other c.args.self.now.only.firsts c.args.number c.args.way) (sym (sym says ∙ c.if-has.true))

pub returns-else-has : goal.returns-else-has
returns-else-has c =
    let says = simp (to_z-of_z, c.ranges.way) at c.has.ensures in
    let other = simp (to_z-of_z, c.ranges.way) at c.has_other.ensures in
    other ∙ ap (λ (b : Bool). b || has_other c.args.self.now.only.firsts c.args.number c.args.way) (sym (sym says ∙ c.if-has.false))
