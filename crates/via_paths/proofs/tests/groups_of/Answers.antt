use Rattle.std.proofs.Common.{All, sym, subst}
use Rattle.std.proofs.lemmas.List.Elements.{All-push}
use Rattle.via_paths.specs.Forbidden.{HasPath, IsBelow}
use Rattle.via_paths.proofs.tests.groups_of.Goals as goal

pub loop-line-preserved : goal.loop-line-preserved
loop-line-preserved g c = record {
  paths = subst (All HasPath) (sym c.in_ok-push.ensures.items) (All-push HasPath c.loop-line.groups.items c.in_ok-group_of.field-0 c.loop-line.invariant.paths c.in_ok-group_of.ensures.path);
  ordinary = subst (All (IsBelow 8)) (sym c.in_ok-push.ensures.items) (All-push (IsBelow 8) c.loop-line.groups.items c.in_ok-group_of.field-0 c.loop-line.invariant.ordinary c.in_ok-group_of.ensures.ordinary);
}
