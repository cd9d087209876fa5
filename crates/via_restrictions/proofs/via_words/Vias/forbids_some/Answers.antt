use Rattle.std.proofs.Common.{ℕ, Bool, cond, rules, sym, ap, ◌∙◌, w64, FitsSigned}
use Rattle.std.proofs.lemmas.Int.{to_z-of_z}
use Rattle.via_restrictions.specs.ViaParts.{is_reached}
use Rattle.via_restrictions.specs.WaySets.{has_other, has_way}
use Rattle.via_restrictions.proofs.FindLemmas.{forbids-some}
use Rattle.via_restrictions.proofs.via_words.Vias.forbids_some.Goals as goal

pub returns-then-only : goal.returns-then-only
returns-then-only c =
    let rule = c.args.rule.now in
    let ways = c.args.reached.now.ways in
    let others = c.args.reached.now.firsts in
    let number = c.in_ok-number.number in
    let fits : FitsSigned w64 c.to.result = search rules in
    let says = simp (to_z-of_z, fits) at c.has_other.ensures in
    says
    ∙ ap (has_other others number) c.to.ensures
    ∙ ap (λ (b : Bool). cond b (has_other others number rule.to) (has_way ways number rule.to)) (sym (sym c.only.ensures ∙ c.if-only.true))
    ∙ ap (λ (n : ℕ). is_reached ways others n rule) c.in_ok-number.ensures
    ∙ forbids-some c.args.self.now.turning.roads.now c.args.self.now.turning.restrictions.now.kept c.args.self.now.rules.now ways others rule c.requires.reached c.requires.rule

pub returns-else-only : goal.returns-else-only
returns-else-only c =
    let rule = c.args.rule.now in
    let ways = c.args.reached.now.ways in
    let others = c.args.reached.now.firsts in
    let number = c.in_ok-number.number in
    let fits : FitsSigned w64 c.to-else-only.result = search rules in
    let says = simp (to_z-of_z, fits) at c.has.ensures in
    says
    ∙ ap (has_way ways number) c.to-else-only.ensures
    ∙ ap (λ (b : Bool). cond b (has_other others number rule.to) (has_way ways number rule.to)) (sym (sym c.only.ensures ∙ c.if-only.false))
    ∙ ap (λ (n : ℕ). is_reached ways others n rule) c.in_ok-number.ensures
    ∙ forbids-some c.args.self.now.turning.roads.now c.args.self.now.turning.restrictions.now.kept c.args.self.now.rules.now ways others rule c.requires.reached c.requires.rule
