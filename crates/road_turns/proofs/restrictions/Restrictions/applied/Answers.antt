use Rattle.std.proofs.Common.{length, arith, ap, not, ◌∙◌}
use Rattle.std.specs.Prelude.{count_by}
use Rattle.std.proofs.lemmas.List.Sums.{length-filter}
use Rattle.turn_rules.specs.Rules.{RulesView}
use Rattle.road_turns.proofs.RuleLemmas.{length-items_where_true}
use Rattle.road_turns.proofs.restrictions.Restrictions.applied.Goals as goal

pub returns : goal.returns
returns c =
    let flags = c.self.inside.applies.items in
    omega (
      arith,
      length-items_where_true flags c.self.inside.rules.kept c.self.invariant.as_many,
      length-filter (λ flag. not flag) flags,
      c.count_unmet.ensures.value ∙ ap (count_by (λ flag. not flag)) c.deref.ensures.value,
      ap (λ (r : RulesView). length r.kept) c.self.view_is,
    )
