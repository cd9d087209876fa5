use Rattle.std.proofs.Common.{◌-◌, ◌≤◌}
use Rattle.geo_integer.specs.Position.{position_of}
use Rattle.snap_index.specs.Candidates.{AreSlots, StandsOn}
use Rattle.snap_index.specs.Index.{AreJudged, IsFrame}
use Rattle.snap_index.proofs.searching.look_through.Given as goal

abbrev pub invariant-loop-at : goal.invariant-loop-at
invariant-loop-at l = record {
  at : l.first ≤ l.at;
  slots : AreSlots l.query.lines.now l.query.base.now.weights l.query.heading (position_of l.query.from) l.slots;
  stay : StandsOn l.initial.slots l.slots;
  frame : IsFrame (position_of l.query.from) l.window.cosine l.window.reach l.slots l.left;
  judged : AreJudged l.query.lines.now l.query.base.now.weights l.query.heading (position_of l.query.from) l.window.reach l.query.index.now.order.items l.first l.at l.slots;
}

abbrev pub decreases-loop-at : goal.decreases-loop-at
decreases-loop-at l = l.end - l.at
