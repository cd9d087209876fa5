use Rattle.std.proofs.Common.{◌≡◌, map, take}
use Rattle.snap_index.specs.declared.snapping.Snapped.{Snapped}
use Rattle.reply_core.proofs.nearest_answers.places_in.Given as goal

-- the places so far
abbrev pub invariant-loop-one : goal.invariant-loop-one
invariant-loop-one l = l.places.items ≡ map (λ (one : Snapped). one.place) (take l.one-index l.found)
