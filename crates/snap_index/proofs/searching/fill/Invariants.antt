use Rattle.std.proofs.Common.{◌≤◌}
use Rattle.geo_integer.specs.Position.{position_of}
use Rattle.snap_index.specs.Candidates.{AreSlots}
use Rattle.snap_index.proofs.searching.fill.Given as goal

abbrev pub invariant-loop : goal.invariant-loop
invariant-loop l = record {
  width : l.width ≤ 180000000;
  slots : AreSlots l.query.lines.now l.query.base.now.weights l.query.heading (position_of l.query.from) l.slots;
}
