use Rattle.std.proofs.Common.{◌≡◌, ◌-◌, ◌++◌, string_bytes}
use Rattle.std.specs.List.{flat_map, range_with_len}
use Rattle.town_text.specs.Town.{inner_of, restriction_line}
use Rattle.town_text.proofs.restrictions.push_restrictions.Given as goal

abbrev pub invariant-loop-row : goal.invariant-loop-row
invariant-loop-row l = string_bytes l.text ≡ string_bytes l.initial.text ++ flat_map (λ y. flat_map (λ x. restriction_line l.n x y) (inner_of l.n)) (range_with_len 1 (l.row - 1))
