use Rattle.std.proofs.lemmas.Int.{to_z-of_z}
use Rattle.road_turns.proofs.LeavingLemmas.{groups-add}
use Rattle.road_turns.proofs.leaving.add.Goals as goal

pub returns-clause-groups : goal.returns-clause-groups
returns-clause-groups c =
    let more = simp (to_z-of_z, c.ranges.node, c.ranges.way) at c.in_ok-add_to_runs.ensures in
    let more_too = simp (to_z-of_z, c.ranges.node, c.ranges.way) at c.in_ok-add_to_groups.ensures in
    groups-add c.args.leaving.now.runs c.add_to_runs.new.all c.args.leaving.now.groups c.add_to_groups.new.groups c.args.node c.args.way c.args.v c.requires more more_too
