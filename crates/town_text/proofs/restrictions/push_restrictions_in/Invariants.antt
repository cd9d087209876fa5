use Rattle.std.proofs.Common.{◌≡◌, ◌-◌, ◌++◌, string_bytes}
use Rattle.std.specs.List.{flat_map, range_with_len}
use Rattle.town_text.specs.Town.{restriction_line}
use Rattle.town_text.proofs.restrictions.push_restrictions_in.Given as goal

abbrev pub invariant-loop-column : goal.invariant-loop-column
invariant-loop-column l = string_bytes l.text ≡ string_bytes l.initial.text ++ flat_map (λ x. restriction_line l.n x l.row) (range_with_len 1 (l.column - 1))
