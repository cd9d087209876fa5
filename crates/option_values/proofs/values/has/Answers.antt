-- What `any` says of the parts of a text.
use Rattle.std.proofs.Common.{lit<, rules, tests}
use Rattle.std.specs.Str.{bytes_eq}
use Rattle.std.proofs.lemmas.Iterator.Search.{any_from_yields_List}
use Rattle.std.proofs.lemmas.Iterator.Splits.{YieldsList-from_str_split}
use Rattle.option_values.proofs.values.has.Goals as goal

pub returns : goal.returns
returns c =
    any_from_yields_List (λ name. bytes_eq name c.args.wanted.now) _ _ _ c.any.ensures.ran (YieldsList-from_str_split 44 c.args.text.now (lit< tt) (cc) (cc) (cc)) (λ x b q k. search (rules, tests))
