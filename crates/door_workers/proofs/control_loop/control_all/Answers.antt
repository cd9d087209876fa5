use Rattle.std.proofs.Common.{refl, subst, arith}
use Rattle.door_workers.specs.declared.turns.Turn.{Turn}
use Rattle.door_workers.specs.Leading.{TurnGives}
use Rattle.door_workers.proofs.Leadings.{led_none, led_then}
use Rattle.door_workers.proofs.control_loop.control_all.Goals as goal

pub loop-init : goal.loop-init
loop-init g c = record { so_far = led_none _ _ _ c.requires.unended; closer = refl; kin = λ x k. k }

pub control_next-requires-clause-unended : goal.control_next-requires-clause-unended
control_next-requires-clause-unended g c = λ κs lives. c.loop.invariant.so_far.goes.ended

pub control_next-requires-clause-finished : goal.control_next-requires-clause-finished
control_next-requires-clause-finished g c = λ κs lives.
    let passed = c.loop.invariant.so_far.goes.passed in
    omega (arith, passed.given, passed.finished, c.requires.finished)

pub control_next-requires-clause-makes : goal.control_next-requires-clause-makes
control_next-requires-clause-makes g c = λ κs lives x made. c.loop.invariant.kin x (c.requires.makes x made)

pub loop-preserved : goal.loop-preserved
loop-preserved g c =
    let inv = c.loop.invariant in
    let call = c.control_next.ensures in
    let one = subst (λ (t : Turn). TurnGives (g.C.Controlling.rule c.args.controls.now) (g.P.Publishing.list c.loop.desk) (g.P.Publishing.list c.control_next.new.desk) (g.D.Door.view c.loop.door) (g.D.Door.view c.control_next.new.door) t) c.in-Served.is call.gives in record {
      so_far = rw c.saturating_add-connections.ensures (led_then (g.C.Controlling.rule c.args.controls.now) _ _ _ _ _ _ c.loop.connections one.0 inv.so_far one.1 one.2);
      closer = inv.closer;
      kin = λ x k. call.kin_stays x (inv.kin x k);
    }
