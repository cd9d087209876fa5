use Rattle.std.proofs.Common.{ap, ◌∙◌}
use Rattle.std.proofs.lemmas.Int.{to_z-of_z}
use Rattle.turn_rules.specs.Rules.{RulesView}
use Rattle.road_turns.specs.RestrictionParts.{has_via}
use Rattle.road_turns.proofs.restrictions.Restrictions.any_at.Goals as goal

pub returns : goal.returns
returns c =
    let says = simp (to_z-of_z, c.ranges.node) at c.contains.ensures in
    says ∙ c.self.invariant.at c.args.node ∙ ap (λ (r : RulesView). has_via r.kept c.args.node) c.self.view_is
