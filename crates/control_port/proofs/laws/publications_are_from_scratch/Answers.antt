use Rattle.control_port.specs.ManyControls.{all_from_scratch}
use Rattle.control_port.proofs.laws.publications_are_from_scratch.Goals as goal

pub returns : goal.returns
returns c = all_from_scratch
