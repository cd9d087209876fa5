use Rattle.std.proofs.Common.{◌≡◌, ℕ, ◌+◌, ◌-◌, arith, rules, drop, subst, w64, FitsSigned}
use Rattle.std.specs.HashSet.{contains}
use Rattle.std.specs.Ordering.{int_eq}
use Rattle.std.proofs.lemmas.Int.{to_z-of_z}
use Rattle.road_turns.specs.RestrictionParts.{has_via}
use Rattle.road_turns.proofs.RuleLemmas.{via-step}
use Rattle.road_turns.proofs.restrictions.via_nodes.Goals as goal

pub loop-i-preserved : goal.loop-i-preserved
loop-i-preserved c = λ node.
    let rules_kept = c.args.rules.now.kept in
    let up : c.loop-i.i ≡ c.loop-i.i - 1 + 1 = omega arith in
    let fits : FitsSigned w64 c.via.result = search rules in
    let updates = simp to_z-of_z at c.in_ok-insert.ensures.updates in
    via-step rules_kept (c.loop-i.i - 1) c.via.result node (contains int_eq c.loop-i.nodes node) (contains int_eq c.insert.new.self node) c.via.ensures
    (subst (λ (k : ℕ). contains int_eq c.loop-i.nodes node ≡ has_via (drop k rules_kept) node) up (c.loop-i.invariant node)) (updates.0 node)
