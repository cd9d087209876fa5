use Rattle.std.proofs.lemmas.Int.{to_z-of_z}
use Rattle.road_turns.proofs.DecisionLemmas.{only-step}
use Rattle.road_turns.proofs.decisions.allow_only.Goals as goal

pub returns : goal.returns
returns c = λ q way.
    let updates = simp (to_z-of_z, c.ranges.node, c.ranges.from) at c.in_ok-insert.ensures.updates in
    let says = simp (to_z-of_z, c.ranges.node, c.ranges.from) at c.in_ok-ways.ensures in
    only-step c.args.to.now way c.args.only.now c.insert.new.self (c.args.node, c.args.from) q c.in_ok-ways.ways (updates.0 q) (says way)
