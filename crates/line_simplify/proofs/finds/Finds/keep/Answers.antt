use Rattle.line_simplify.proofs.Repeats.{finds-set}
use Rattle.line_simplify.proofs.finds.Finds.keep.Goals as goal

pub returns-then-len-gt0 : goal.returns-then-len-gt0
returns-then-len-gt0 c = λ points from h new. finds-set points from c.args.self.now.finds.items c.place_of-place.result c.args.find h new
