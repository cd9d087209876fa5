use Rattle.polyline_text.proofs.Grammar.{answers, complete}
use Rattle.polyline_text.proofs.decoding.decode.Goals as goal

pub returns-clause-answers : goal.returns-clause-answers
returns-clause-answers c = answers c.args.digits c.args.bytes.now _ c.points_of.ensures

pub returns-clause-complete : goal.returns-clause-complete
returns-clause-complete c path is = complete c.args.digits c.args.bytes.now path _ is c.points_of.ensures
