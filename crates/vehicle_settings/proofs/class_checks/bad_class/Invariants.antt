use Rattle.std.proofs.Common.{◌≡◌, not, find, string_bytes}
use Rattle.toml.specs.View.{view}
use Rattle.vehicle_settings.specs.ClassSettings.{is_class}
use Rattle.vehicle_settings.proofs.Entries.{Entry}
use Rattle.vehicle_settings.proofs.class_checks.bad_class.Given as goal

-- the first bad class is among those that are left
abbrev pub invariant-loop-name : goal.invariant-loop-name
invariant-loop-name l =
    find (λ (e : Entry). not (is_class (string_bytes e.0) (view e.1))) l.name-iterator
    ≡ find (λ (e : Entry). not (is_class (string_bytes e.0) (view e.1))) l.classes.entries
