use Rattle.std.proofs.Common.{ap, ◌∙◌}
use Rattle.std.proofs.lemmas.Int.{to_z-of_z}
use Rattle.turn_rules.specs.Rules.{RulesView}
use Rattle.road_turns.specs.Restrictions.{is_forbidden_at}
use Rattle.road_turns.proofs.restrictions.Restrictions.forbid_turn.Goals as goal

pub returns : goal.returns
returns c =
    let says = simp (to_z-of_z, c.ranges.node, c.ranges.from, c.ranges.to) at c.forbid.ensures in
    says
    ∙ c.self.invariant.decisions c.args.node c.args.from c.args.to c.args.back
    ∙ ap (λ (r : RulesView). is_forbidden_at r.kept c.args.node c.args.from c.args.to c.args.back) c.self.view_is
