use Rattle.std.proofs.Common.{◌∙◌, ap}
use Rattle.std.proofs.lemmas.Int.{to_z-of_z}
use Rattle.road_turns.specs.Leaving.{exits_in}
use Rattle.road_turns.proofs.LeavingLemmas.{exits_in-grown}
use Rattle.road_turns.proofs.leaving.add_exit.Goals as goal

pub returns : goal.returns
returns c =
    let rest = simp (to_z-of_z, c.ranges.way) at c.in_ok-run.ensures.rest in
    let way = simp (to_z-of_z, c.ranges.way) at c.in_ok-run.ensures.way in
    ap exits_in c.in_ok-push-2.ensures.items ∙ exits_in-grown c.args.runs.now.items c.last_run.new.runs.items c.args.way c.args.v c.in_ok-run.run' _ rest way c.in_ok-push.ensures.items
