use Rattle.metric_publish.proofs.Kin.{last_akin}
use Rattle.metric_publish.proofs.local_board.LocalBoard.last.Goals as goal

pub returns-clause-kin : goal.returns-clause-kin
returns-clause-kin g c = last_akin g.V.Kindred.akin g.V.Kindred.together _ _ c.args.self.now.page.last c.check_law.ensures.kin
