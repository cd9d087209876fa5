use Rattle.road_io.specs.DoorOpening.{asked}
use Rattle.memory_doors.proofs.SteadyLaws.{opens}
use Rattle.memory_doors.proofs.steady_doors.SteadyDoorsDoors.open.Goals as goal

pub returns-in-Ok-clause-gives : goal.returns-in-Ok-clause-gives
returns-in-Ok-clause-gives g c =
    opens g.C.Conn.state c.args.self.now c.give.new.self c.in-Ok.opened.queries.items c.in-Ok.opened.control (asked c.args.query.now c.args.control.now c.args.workers)
    c.in-Ok.ensures.queries c.in-Ok.ensures.control c.in-Ok.ensures.left
