-- What `split_once` gives at an ASCII character.
use Rattle.std.proofs.lemmas.Str.Pattern.{split_once_first}
use Rattle.option_values.proofs.Cuts.{IsCut-at, IsUncut-without, match_weaker}
use Rattle.option_values.proofs.cutting.cut.Goals as goal

pub returns : goal.returns
returns c =
    let text = c.args.text.now in
    let separator = c.args.separator in
    match_weaker c.split_once.result (IsUncut-without separator text) (λ parts q. IsCut-at separator text parts.0.now parts.1.now q.0 q.1 q.2)
    (split_once_first separator text c.split_once.result c.split_once.ensures.cases c.requires)
