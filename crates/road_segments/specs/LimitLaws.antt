-- A bound of the limit, for sums and types: whoever asks for no more stands as it is where the limit is raised up to it.
use Rattle.std.proofs.Common.{◌≤◌, ◌^◌, arith}
use Rattle.road_segments.specs.Limits.{most_segments}

-- two vertices for each segment are no more than a graph that is searched may have
pub few_segments : most_segments ≤ 2 ^ 26
unfolding most_segments
few_segments = omega arith
