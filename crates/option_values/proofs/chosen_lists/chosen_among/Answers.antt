-- The numbers of a value, each below the count or not.
use Rattle.std.proofs.Common.{◌≡◌, true, false, ltb, codes, Some, sym, ◌∙◌, ap, rules}
use Rattle.std.specs.List.{list_all}
use Rattle.std.specs.Option.{option_copied}
use Rattle.std.specs.Str.{bytes_eq}
use Rattle.option_values.specs.Entries.{chosen_among}
use Rattle.option_values.specs.declared.option_types.Chosen.TheVariants.{Only}
use Rattle.option_values.proofs.ChosenAmong.{chosen_among-low, chosen_among-high}
use Rattle.option_values.proofs.chosen_lists.chosen_among.Goals as goal

pub returns-then-are_below-clause-chosen : goal.returns-then-are_below-clause-chosen
returns-then-are_below-clause-chosen c =
    let value = c.in-Some.value.now in
    let indexes = c.in-Some-2.indexes.items in
    let other : bytes_eq value (codes "all") ≡ false = search rules in
    let low : list_all (λ i. ltb i c.args.count) indexes ≡ true = search rules in
    let read = rw c.in-Some-2.is at c.in_ok-indexes.ensures in
    ap (λ xs. Some (Only xs)) c.of.ensures
    ∙ sym (chosen_among-low c.args.count value indexes other read low)
    ∙ sym (ap (λ o. chosen_among c.args.count (option_copied o)) c.in-Some.is)

pub returns-else-are_below-clause-chosen : goal.returns-else-are_below-clause-chosen
returns-else-are_below-clause-chosen c =
    let value = c.in-Some.value.now in
    let indexes = c.in-Some-2.indexes.items in
    let other : bytes_eq value (codes "all") ≡ false = search rules in
    let high : list_all (λ i. ltb i c.args.count) indexes ≡ false = search rules in
    let read = rw c.in-Some-2.is at c.in_ok-indexes.ensures in
    sym (chosen_among-high c.args.count value indexes other read high)
    ∙ sym (ap (λ o. chosen_among c.args.count (option_copied o)) c.in-Some.is)
