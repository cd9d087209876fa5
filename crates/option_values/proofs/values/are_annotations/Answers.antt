-- What `all` says of the parts of a text.
use Rattle.std.proofs.Common.{lit<, rules, tests}
use Rattle.std.proofs.lemmas.Iterator.Search.{all_from_yields_List}
use Rattle.std.proofs.lemmas.Iterator.Splits.{YieldsList-from_str_split}
use Rattle.option_values.specs.Values.{is_annotation}
use Rattle.option_values.proofs.values.are_annotations.Goals as goal

pub returns : goal.returns
returns c =
    all_from_yields_List is_annotation _ _ _ c.all.ensures.ran (YieldsList-from_str_split 44 c.args.text.now (lit< tt) (cc) (cc) (cc)) (λ x b q k. search (rules, tests))
