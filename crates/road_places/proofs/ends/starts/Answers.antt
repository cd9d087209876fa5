use Rattle.std.proofs.Common.{◌+◌, ◌*◌}
use Rattle.road_places.specs.Permitted.{IsStartAlong}
use Rattle.road_places.proofs.EndLemmas.{are-all, if_ok, one-start, start-or_none}
use Rattle.road_places.proofs.ends.starts.Goals as goal

-- the starts along the two directions
pub returns : goal.returns
returns c =
    let w = c.args.base.now.weights in
    let p = c.args.place in
    let s = p.segment in
    if_ok c.listed.result
    (λ list e. are-all (IsStartAlong w p) (one-start w p) s c.start_at-forward.result c.start_at-backward.result (start-or_none w p (2 * s) c.start_at-forward.result c.start_at-forward.ensures) (start-or_none w p (2 * s + 1) c.start_at-backward.result c.start_at-backward.ensures) list.items e)
    c.listed.ensures
