use Rattle.std.proofs.Common.{◌≡◌}
use Rattle.door_workers.specs.Leading.{LedSoFar}
use Rattle.door_workers.proofs.control_loop.control_all.Given as goal

-- so many connections led so far, and the closer is not spent
abbrev pub invariant-loop : goal.invariant-loop
invariant-loop g l = record {
  so_far : LedSoFar (g.C.Controlling.rule l.controls) (g.P.Publishing.list l.initial.desk) (g.P.Publishing.list l.desk) (g.D.Door.view l.initial.door) (g.D.Door.view l.door) l.connections;
  closer : l.closer ≡ l.initial.closer;
  kin : (x : _) → g.P.Publishing.kin l.initial.desk x → g.P.Publishing.kin l.desk x;
}
