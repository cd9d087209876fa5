use Rattle.serve_command.proofs.SteadyLaws.{never_outside}
use Rattle.serve_command.proofs.laws.steady_runs_never_end_for_the_outside.Goals as goal

pub returns : goal.returns
returns c = never_outside
