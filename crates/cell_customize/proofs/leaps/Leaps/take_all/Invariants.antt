use Rattle.std.proofs.Common.{◌≡◌}
use Rattle.cell_customize.specs.Leaping.{AreBundles, IsGoal}
use Rattle.cell_customize.proofs.leaps.Leaps.take_all.Given as goal

-- the leaps of the vertices so far are taken
abbrev pub invariant-loop-u : goal.invariant-loop-u
invariant-loop-u g l = record {
  bundles : AreBundles g.C.Cost.ops (g.T.Steps.space l.steps) (IsGoal l.self.goals.items) l.self.bundles.items l.self.gathering.hops.items l.u;
  goals : l.self.goals.items ≡ l.initial.self.goals.items;
}
