use Rattle.control_port.specs.OneControl.{one_control}
use Rattle.control_port.proofs.laws.requests_have_one_answer.Goals as goal

pub returns : goal.returns
returns c = one_control
