use Rattle.std.proofs.Common.{rules, w64, FitsSigned, ◌∙◌}
use Rattle.std.proofs.lemmas.Int.{to_z-of_z}
use Rattle.road_turns.proofs.RuleLemmas.{flag-step}
use Rattle.road_turns.proofs.restrictions.flags_of.Goals as goal

pub loop-i-preserved : goal.loop-i-preserved
loop-i-preserved c =
    let fits : FitsSigned w64 c.via.result = search rules in
    let says = simp to_z-of_z at c.all_meet.ensures in
    c.in_ok-push.ensures.items
    ∙ flag-step c.args.roads.now c.args.rules.now.kept c.loop-i.i c.via.result c.ways.result.now c.in_ok-nodes.nodes c.in_ok-met.met c.all_meet.result c.loop-i.flags.items
    c.via.ensures c.ways.ensures c.in_ok-nodes.ensures c.in_ok-met.ensures says c.loop-i.invariant
