use Rattle.std.proofs.Common.{◌+◌, ◌*◌}
use Rattle.road_places.specs.Permitted.{IsTargetAlong}
use Rattle.road_places.proofs.EndLemmas.{are-all, if_ok, one-target, target-or_none}
use Rattle.road_places.proofs.ends.targets.Goals as goal

-- the targets along the two directions
pub returns : goal.returns
returns c =
    let w = c.args.base.now.weights in
    let p = c.args.place in
    let s = p.segment in
    if_ok c.listed.result
    (λ list e. are-all (IsTargetAlong w p) (one-target w p) s c.target_at-forward.result c.target_at-backward.result (target-or_none w p (2 * s) c.target_at-forward.result c.target_at-forward.ensures) (target-or_none w p (2 * s + 1) c.target_at-backward.result c.target_at-backward.ensures) list.items e)
    c.listed.ensures
