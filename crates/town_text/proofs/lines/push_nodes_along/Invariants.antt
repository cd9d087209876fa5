use Rattle.std.proofs.Common.{◌≡◌, ◌+◌, ◌-◌, ◌*◌, ◌++◌, string_bytes}
use Rattle.std.specs.List.{flat_map, range_with_len}
use Rattle.town_text.specs.Town.{next_node}
use Rattle.town_text.proofs.lines.push_nodes_along.Given as goal

abbrev pub invariant-loop-place : goal.invariant-loop-place
invariant-loop-place l = string_bytes l.text ≡ string_bytes l.initial.text ++ flat_map (λ k. next_node (l.first + k * l.step)) (range_with_len 1 (l.place - 1))
