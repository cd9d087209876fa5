-- What `all` says of the entries of a value.
use Rattle.std.proofs.Common.{lit<, eqb, rules, tests, ◌∙◌}
use Rattle.std.specs.List.{slice_split}
use Rattle.std.specs.Option.{is_some}
use Rattle.std.proofs.lemmas.Iterator.Search.{all_from_yields_List}
use Rattle.std.proofs.lemmas.Iterator.Splits.{YieldsList-from_str_split}
use Rattle.option_values.proofs.EachRead.{list_all-read}
use Rattle.option_values.proofs.entries.are_read.Goals as goal

pub returns : goal.returns
returns g c =
    all_from_yields_List (λ entry. is_some (g.E.Entry.read entry)) _ _ _ c.all.ensures.ran (YieldsList-from_str_split 59 c.args.value.now (lit< tt) (cc) (cc) (cc)) (λ x b q k. search (rules, tests))
    ∙ list_all-read g.E.Entry.read (slice_split (λ b. eqb b 59) c.args.value.now)
