use Rattle.std.proofs.Common.{subst}
use Rattle.std.specs.Prelude.{IsTrue}
use Rattle.line_simplify.proofs.Alike.{equal-alike}
use Rattle.line_simplify.proofs.parts.lie_alike.Goals as goal

pub returns : goal.returns
returns c = λ t. equal-alike c.args.one.now c.args.other.now (subst IsTrue c.eq.ensures t)
