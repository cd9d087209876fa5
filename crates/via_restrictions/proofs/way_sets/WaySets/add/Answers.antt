use Rattle.std.proofs.Common.{◌==◌, ◌&&◌, ◌∙◌}
use Rattle.std.specs.Ordering.{int_eq}
use Rattle.std.proofs.lemmas.Int.{to_z-of_z}
use Rattle.via_restrictions.specs.WaySets.{has_way}
use Rattle.via_restrictions.proofs.CourseLemmas.{cond-or}
use Rattle.via_restrictions.proofs.way_sets.WaySets.add.Goals as goal

pub returns-clause-ways : goal.returns-clause-ways
returns-clause-ways c = λ s w.
    let updates = simp (to_z-of_z, c.ranges.way) at c.in_ok-insert.ensures.updates in
    updates.0 (s, w) ∙ cond-or ((c.args.set == s) && int_eq c.args.way w) (has_way c.args.self.now.ways s w)
