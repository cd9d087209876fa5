-- The tree is what TOML's grammar says of bytes that are UTF-8.
use Rattle.std.proofs.Common.{◌≡◌, sym, ap, ◌∙◌, None, rules}
use Rattle.toml.specs.Parse.{parse_document}
use Rattle.vehicle_settings.proofs.Trees.{tree_of-utf8, tree_of-not_utf8}
use Rattle.vehicle_settings.proofs.settings_tree.tree.Goals as goal

pub returns-in_default-clause-refused : goal.returns-in_default-clause-refused
returns-in_default-clause-refused c = tree_of-not_utf8 c.args.bytes.now (c.in_default.ensures.cases.0)

pub returns-in-Ok-table_from_str-clause-ok : goal.returns-in-Ok-table_from_str-clause-ok
returns-in-Ok-table_from_str-clause-ok c =
    tree_of-utf8 c.args.bytes.now (c.in-Ok.ensures.cases.1)
    ∙ ap parse_document (sym (c.in-Ok.ensures.cases.0)) ∙ c.in-Ok-table_from_str.ensures.ok

pub returns-else-is_memory-clause-refused : goal.returns-else-is_memory-clause-refused
returns-else-is_memory-clause-refused c =
    let none : parse_document c.in-Ok.text.now ≡ None = search rules in
    tree_of-utf8 c.args.bytes.now (c.in-Ok.ensures.cases.1) ∙ ap parse_document (sym (c.in-Ok.ensures.cases.0)) ∙ none
