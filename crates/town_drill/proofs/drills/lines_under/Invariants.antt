use Rattle.std.proofs.Common.{◌≡◌, ℕ, List, string_bytes, take}
use Rattle.std.specs.List.{AllZip, flat_map, range_with_len}
use Rattle.town_drill.specs.Drill.{IsLine}
use Rattle.town_drill.proofs.drills.lines_under.Given as goal

-- the lines so far
abbrev pub invariant-loop-number : goal.invariant-loop-number
invariant-loop-number g l =
    (lines : List (List ℕ)) × AllZip (λ k line. IsLine l.roads.network l.n k line) (take l.number (range_with_len 0 4)) lines × (string_bytes l.text ≡ flat_map (λ line. line) lines)
