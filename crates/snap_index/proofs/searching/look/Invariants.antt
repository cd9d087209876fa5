use Rattle.std.proofs.Common.{◌-◌, length}
use Rattle.geo_integer.specs.Position.{position_of}
use Rattle.snap_index.specs.Candidates.{AreSlots}
use Rattle.snap_index.specs.Index.{AreJudged, IsFrame}
use Rattle.snap_index.proofs.searching.look.Given as goal

abbrev pub invariant-loop-at : goal.invariant-loop-at
invariant-loop-at l = record {
  slots : AreSlots l.query.lines.now l.query.base.now.weights l.query.heading (position_of l.query.from) l.slots;
  frame : IsFrame (position_of l.query.from) l.window.cosine l.window.reach l.slots l.frame;
  judged : AreJudged l.query.lines.now l.query.base.now.weights l.query.heading (position_of l.query.from) l.window.reach l.index.order.items 0 l.at l.slots;
}

abbrev pub decreases-loop-at : goal.decreases-loop-at
decreases-loop-at l = length l.index.order.items - l.at
