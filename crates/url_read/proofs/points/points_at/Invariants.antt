use Rattle.road_base.specs.Points.{point_at}
use Rattle.url_read.proofs.Numbered.{IsFound}
use Rattle.url_read.proofs.points.points_at.Given as goal

-- the points so far are those of the pairs so far
abbrev pub invariant-loop-pair : goal.invariant-loop-pair
invariant-loop-pair l = IsFound (λ d. point_at d.0 d.1) l.degrees l.points.items l.pair-index
