use Rattle.std.proofs.Common.{◌≡◌, ◌++◌, map}
use Rattle.way_profile.proofs.Entries.{class_entry}
use Rattle.way_profile.proofs.class_values.classes_of.Given as goal

-- the list so far, and what is left of the table, make all its classes
abbrev pub invariant-loop-name : goal.invariant-loop-name
invariant-loop-name l = l.list.items ++ map class_entry l.name-iterator ≡ map class_entry l.classes.entries
