use Rattle.metric_publish.proofs.Kin.{last_kin}
use Rattle.metric_publish.proofs.local_board.LocalBoard.enter.Goals as goal

pub returns-clause-kin : goal.returns-clause-kin
returns-clause-kin g c =
    rw (c.of.ensures, c.in_ok-value.ensures) (last_kin g.V.Kindred.akin _ _ c.args.self.now.page.last c.check_law.ensures.kin)
