use Rattle.std.proofs.Common.{ap, arith}
use Rattle.memory_doors.proofs.SteadyLaws.{back_gives}
use Rattle.memory_doors.proofs.steady_doors.SteadyDoorsDoors.back.Goals as goal

pub returns-clause-takes : goal.returns-clause-takes
returns-clause-takes g c =
    back_gives g.C.Conn.state c.args.self.now _ c.args.queries.items c.args.control (omega (arith, ap (λ s. s.out) c.self.view_is, c.len.ensures))
