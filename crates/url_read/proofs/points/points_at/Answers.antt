-- Each turn has the next pair.
use Rattle.std.proofs.Common.{◌≡◌, ℤ, pos, length, get_or, Option, Some, None, Err, sym, ap, ◌∙◌, arith}
use Rattle.road_base.specs.declared.coordinates.Point.{Point}
use Rattle.url_read.specs.Coordinates.{or_refused}
use Rattle.road_base.specs.Points.{point_at}
use Rattle.url_read.specs.Refusals.{out_of_range}
use Rattle.url_read.proofs.Numbered.{IsFound-start, IsFound-more, IsFound-stop, IsFound-all}
use Rattle.url_read.proofs.points.points_at.Goals as goal

abbrev at : ℤ × ℤ → Option Point
at d = point_at d.0 d.1

pub loop-pair-init : goal.loop-pair-init
loop-pair-init c = IsFound-start at c.args.degrees.now c.new-points.result.items c.new-points.ensures.items

pub returns-in_default-clause-refusal : goal.returns-in_default-clause-refusal
returns-in_default-clause-refusal c =
    let points = c.loop-pair.points in
    let none : at (get_or c.args.degrees.now c.loop-pair.pair-index (pos 0, pos 0)) ≡ None = sym c.point_of.ensures ∙ c.in_default.is in
    let count : c.len.result ≡ length points.items = omega (arith, points.ok.0) in
    ap (or_refused out_of_range) (IsFound-stop at c.args.degrees.now points.items c.loop-pair.pair-index (pos 0, pos 0) c.loop-pair.invariant c.loop-pair-test.true none)
    ∙ ap (λ number. Err (out_of_range number)) (sym count)
    ∙ ap Err (sym c.in_ok-out_of_range.ensures)

pub loop-pair-preserved : goal.loop-pair-preserved
loop-pair-preserved c =
    let points = c.loop-pair.points in
    let point : at (get_or c.args.degrees.now c.loop-pair.pair-index (pos 0, pos 0)) ≡ Some c.in-Some.point = sym c.point_of.ensures ∙ c.in-Some.is in
    rw c.in_ok-push.ensures.items
    (IsFound-more at c.args.degrees.now points.items c.loop-pair.pair-index c.in-Some.point (pos 0, pos 0) c.loop-pair.invariant c.loop-pair-test.true point)

pub returns-clause-points : goal.returns-clause-points
returns-clause-points c = ap (or_refused out_of_range) (IsFound-all at c.args.degrees.now c.loop-pair.points.items c.loop-pair.pair-index c.loop-pair.invariant c.loop-pair-test.false)
