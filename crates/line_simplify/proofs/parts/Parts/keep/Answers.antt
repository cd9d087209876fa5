use Rattle.line_simplify.proofs.Alike.{splits-set}
use Rattle.line_simplify.proofs.parts.Parts.keep.Goals as goal

pub returns-then-len-gt0 : goal.returns-then-len-gt0
returns-then-len-gt0 c = λ limit points h new. splits-set limit points c.args.self.now.parts.items c.place_of-place.result c.args.part h new
