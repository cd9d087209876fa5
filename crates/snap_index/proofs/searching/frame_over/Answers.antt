use Rattle.geo_integer.specs.Position.{position_of}
use Rattle.snap_index.specs.Nearest.{remoteness}
use Rattle.snap_index.proofs.searching.frame_over.Goals as goal

pub returns : goal.returns
returns c = λ spot s out cos. c.farthest.ensures (remoteness (position_of c.args.from) spot) s (c.frame_of.ensures spot out cos)
