use mathlib.Core.List.{IsPrefix}
use Rattle.door_workers.specs.Passing.{GoneSoFar}
use Rattle.door_workers.proofs.workers.answer_all.Given as goal

-- so many connections so far met their rule, under a list that only grew
abbrev pub invariant-loop : goal.invariant-loop
invariant-loop g l = record {
  so_far : GoneSoFar (g.D.Door.view l.initial.door) (g.D.Door.view l.door) (g.Q.Querying.rule l.queries (g.S.Reading.seen l.seat)) l.count;
  seen : IsPrefix (g.S.Reading.seen l.initial.seat) (g.S.Reading.seen l.seat);
  kin : (x : _) → g.S.Reading.kin l.seat x → g.S.Reading.kin l.initial.seat x;
}
