-- What `all` says of the names of a value.
use Rattle.std.proofs.Common.{◌≡◌, eqb, length, not, lit<, rules, tests, ◌∙◌, Bool, true, false, cond, Some, None, refl}
use Rattle.std.specs.List.{list_all}
use Rattle.std.specs.Option.{is_some}
use Rattle.std.proofs.lemmas.Iterator.Search.{all_from_yields_List}
use Rattle.std.proofs.lemmas.Iterator.Splits.{YieldsList-from_str_split}
use Rattle.option_values.specs.Values.{names_of}
use Rattle.option_values.proofs.excluded_names.is_exclusion.Goals as goal

is_some_where : {A : Type 0} (x : A) (b : Bool) → b ≡ is_some (cond b (Some x) None)
is_some_where x true = refl
is_some_where x false = refl

pub returns : goal.returns
returns c =
    let named = list_all (λ name. not (eqb (length name) 0)) (names_of c.args.value.now) in
    all_from_yields_List (λ name. not (eqb (length name) 0)) _ _ _ c.all.ensures.ran (YieldsList-from_str_split 44 c.args.value.now (lit< tt) (cc) (cc) (cc)) (λ x b q k. search (rules, tests))
    ∙ is_some_where (names_of c.args.value.now) named
