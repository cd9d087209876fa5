use Rattle.std.proofs.Common.{◌≡◌, ℕ, ◌-◌, ◌≤◌, length, drop}
use Rattle.polyline_text.specs.Decoding.{decoded, behind_points, points_in}
use Rattle.polyline_text.proofs.decoding.points_of.Given as goal

abbrev pub invariant-loop-at : goal.invariant-loop-at
invariant-loop-at l =
    (l.at ≤ length l.bytes) × ((most : ℕ) × (length (drop l.at l.bytes) ≤ most)
    × (decoded l.fn.digits l.bytes ≡ behind_points l.points.items l.at (points_in most l.fn.digits l.lon l.lat (drop l.at l.bytes))))

abbrev pub decreases-loop-at : goal.decreases-loop-at
decreases-loop-at l = length l.bytes - l.at
