use Rattle.std.proofs.Common.{ap, sym, false, ◌∙◌}
use Rattle.std.proofs.lemmas.Int.{to_z-of_z}
use Rattle.turn_rules.specs.Rules.{RulesView}
use Rattle.road_turns.specs.Decisions.{rules_out}
use Rattle.road_turns.specs.Restrictions.{is_forbidden_at}
use Rattle.road_turns.proofs.DecisionLemmas.{MatchOnto-map, decides-out}
use Rattle.road_turns.proofs.restrictions.Restrictions.onto.Goals as goal

pub returns : goal.returns
returns c =
    let says = simp (to_z-of_z, c.ranges.node, c.ranges.from) at c.onto.ensures in
    let d = c.self.inside.decisions in
    MatchOnto-map (λ to. rules_out d.only (c.args.node, c.args.from) to) (λ to. is_forbidden_at c.args.self.now.kept c.args.node c.args.from to false)
    (λ to out.
    ap (λ (r : RulesView). is_forbidden_at r.kept c.args.node c.args.from to false) (sym c.self.view_is)
    ∙ sym (c.self.invariant.decisions c.args.node c.args.from to false)
    ∙ decides-out d.forbidden d.no_u_turn d.only c.args.node c.args.from to false out)
    c.onto.result says
