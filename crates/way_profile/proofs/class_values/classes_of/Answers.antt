-- The loop goes over the entries of the table's map.
use Rattle.std.proofs.Common.{◌≡◌, ◌++◌, [], map, sym, ap, ◌∙◌, rules, append-nil}
use Rattle.std.specs.Map.Iter.{deref_pair}
use Rattle.std.proofs.lemmas.Map.Iter.{rest_all}
use Rattle.way_profile.proofs.Entries.{class_entry, classes_of_table-entries}
use Rattle.way_profile.proofs.class_values.classes_of.Goals as goal

pub loop-name-init : goal.loop-name-init
loop-name-init c =
    let all : c.into_iter-name-iterator.result ≡ c.args.classes.now.entries = search rules in
    ap (λ made. made ++ map class_entry c.into_iter-name-iterator.result) c.new-list.ensures.items ∙ ap (map class_entry) all

pub returns : goal.returns
returns c =
    let none : c.loop-name.name-iterator ≡ [] = rest_all deref_pair _ _ _ c.in-None.is c.next.ensures.steps in
    sym (append-nil c.loop-name.list.items)
    ∙ ap (λ es. c.loop-name.list.items ++ map class_entry es) (sym none)
    ∙ c.loop-name.invariant ∙ classes_of_table-entries c.args.classes.now.entries
