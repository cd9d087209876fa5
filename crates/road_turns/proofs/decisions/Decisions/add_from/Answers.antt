use Rattle.std.proofs.Common.{Bool, not, ◌&&◌, ◌||◌, ap, sym, ◌∙◌}
use Rattle.std.specs.HashSet.{contains}
use Rattle.std.specs.Ordering.{int_eq}
use Rattle.std.proofs.lemmas.Int.{to_z-of_z}
use Rattle.std.proofs.lemmas.Result.{on_ok_weaker}
use Rattle.turn_rules.specs.Rules.{forbids_onto, is_among}
use Rattle.turn_rules.specs.declared.senses.Sense.{Sense}
use Rattle.road_turns.specs.Decisions.{decides, passage_eq, rules_out}
use Rattle.road_turns.proofs.DecisionLemmas.{more-forbidden, more-no_u_turn}
use Rattle.road_turns.proofs.decisions.Decisions.add_from.Goals as goal

pub returns-in-No : goal.returns-in-No
returns-in-No c =
    let says = simp (to_z-of_z, c.ranges.node, c.ranges.from) at c.forbid_onto.ensures in
    on_ok_weaker c.forbid_onto.result
    (λ h n f t back.
    let on = contains passage_eq c.args.self.now.no_u_turn (n, f, t) in
    let out = rules_out c.args.self.now.only (n, f) t in
    let old = decides c.args.self.now.forbidden c.args.self.now.no_u_turn c.args.self.now.only n f t back in
    ap (λ (b : Bool). (b || (on && (back || not (int_eq f t)))) || out) (h (n, f, t))
    ∙ more-forbidden (contains passage_eq c.args.self.now.forbidden (n, f, t)) on (back || not (int_eq f t)) out ((int_eq c.args.node n && int_eq c.args.from f) && is_among c.args.to.now t)
    ∙ ap (λ (s : Sense). old || ((int_eq c.args.node n && int_eq c.args.from f) && forbids_onto s c.args.to.now f t back)) (sym c.in-No.is))
    says

pub returns-in-NoUTurn : goal.returns-in-NoUTurn
returns-in-NoUTurn c =
    let says = simp (to_z-of_z, c.ranges.node, c.ranges.from) at c.forbid_onto-in-NoUTurn.ensures in
    on_ok_weaker c.forbid_onto-in-NoUTurn.result
    (λ h n f t back.
    let never = contains passage_eq c.args.self.now.forbidden (n, f, t) in
    let out = rules_out c.args.self.now.only (n, f) t in
    let old = decides c.args.self.now.forbidden c.args.self.now.no_u_turn c.args.self.now.only n f t back in
    ap (λ (b : Bool). (never || (b && (back || not (int_eq f t)))) || out) (h (n, f, t))
    ∙ more-no_u_turn never (contains passage_eq c.args.self.now.no_u_turn (n, f, t)) (back || not (int_eq f t)) out (int_eq c.args.node n && int_eq c.args.from f) (is_among c.args.to.now t)
    ∙ ap (λ (s : Sense). old || ((int_eq c.args.node n && int_eq c.args.from f) && forbids_onto s c.args.to.now f t back)) (sym c.in-NoUTurn.is))
    says
