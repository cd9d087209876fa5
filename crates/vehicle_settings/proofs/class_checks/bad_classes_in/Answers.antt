-- The table of classes, by how many it has.
use Rattle.std.proofs.Common.{◌≡◌, true, false, None, Some, length, nat_le, ap, ◌∙◌, rules}
use Rattle.toml.specs.View.{table_view, view}
use Rattle.vehicle_settings.proofs.Entries.{length-entries}
use Rattle.vehicle_settings.proofs.Lists.{bad_classes-few, bad_classes-many, bad_classes-table}
use Rattle.vehicle_settings.proofs.class_checks.bad_classes_in.Goals as goal

pub returns-then-len-gt-MOST_CLASSES : goal.returns-then-len-gt-MOST_CLASSES
returns-then-len-gt-MOST_CLASSES c =
    let es = c.in-Some.classes.now.entries in
    let many : nat_le (length es) 8 ≡ false = search rules in
    ap Some c.in_ok-copy_of-2.ensures
    ∙ bad_classes-many (table_view c.in-Some.classes.now) (ap (λ n. nat_le n 8) (length-entries es) ∙ many)
    ∙ bad_classes-table (view c.args.value.now) _ c.in-Some.ensures

pub returns-in_ok-format-in-Some-bad_class : goal.returns-in_ok-format-in-Some-bad_class
returns-in_ok-format-in-Some-bad_class c =
    let es = c.in-Some.classes.now.entries in
    let few : nat_le (length es) 8 ≡ true = search rules in
    ap Some (c.of.ensures ∙ c.in_ok-format-in-Some-bad_class.ensures.ok)
    ∙ bad_classes-few (table_view c.in-Some.classes.now) _ (ap (λ n. nat_le n 8) (length-entries es) ∙ few) c.in-Some-bad_class.ensures
    ∙ bad_classes-table (view c.args.value.now) _ c.in-Some.ensures

pub returns-in-None : goal.returns-in-None
returns-in-None c =
    let es = c.in-Some.classes.now.entries in
    let few : nat_le (length es) 8 ≡ true = search rules in
    bad_classes-few (table_view c.in-Some.classes.now) None (ap (λ n. nat_le n 8) (length-entries es) ∙ few) c.in-None.ensures
    ∙ bad_classes-table (view c.args.value.now) _ c.in-Some.ensures
