use Rattle.std.proofs.Common.{◌≤◌, length}
use Rattle.cell_customize.specs.Leaping.{Gathers}
use Rattle.cell_customize.proofs.Taking.{ByArcs}
use Rattle.cell_customize.proofs.leaps.Gathering.take_arcs.Given as goal

-- what lies behind the arcs so far is taken
abbrev pub invariant-loop-place : goal.invariant-loop-place
invariant-loop-place g l = record {
  within : l.from ≤ length l.self.hops.items;
  gathers : Gathers g.C.Cost.ops l.initial.self.hops.items l.self.hops.items l.from (ByArcs g.C.Cost.ops (g.T.Steps.space l.steps) l.x l.arcs l.paid l.place);
}
