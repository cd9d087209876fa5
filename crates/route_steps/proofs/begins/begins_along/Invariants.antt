use Rattle.std.proofs.Common.{◌≡◌, ◌∷◌, ◌-◌}
use Rattle.std.specs.List.{filter_map, range_with_len}
use Rattle.route_steps.specs.Steps.{begin_at, departure}
use Rattle.route_steps.proofs.begins.begins_along.Given as goal

-- the begins before this place are listed
abbrev pub invariant-loop-place : goal.invariant-loop-place
invariant-loop-place l = l.begins.items ≡ departure ∷ filter_map (begin_at l.network l.walk) (range_with_len 1 (l.place - 1))
