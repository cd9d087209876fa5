use Rattle.metric_publish.proofs.Kin.{fronts_kin}
use Rattle.metric_publish.proofs.Runs.{front_runs}
use Rattle.metric_publish.proofs.history.check_law.Goals as goal

pub returns-clause-runs : goal.returns-clause-runs
returns-clause-runs g c = front_runs c.args.reached.now.log c.learn.new.self.log c.learn.ensures.3 c.learn.ensures.4.1.runs

pub returns-clause-kin : goal.returns-clause-kin
returns-clause-kin g c = fronts_kin g.V.Kindred.akin c.args.reached.now.log c.learn.new.self.log c.learn.ensures.3 c.learn.ensures.4.1.kin_is
