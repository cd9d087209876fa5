use Rattle.std.proofs.Common.{◌≡◌, ℕ, suc, ◌<◌, ◌^◌, ◌++◌, string_bytes}
use Rattle.polyline_text.specs.Encoding.{groups_text}
use Rattle.polyline_text.proofs.encoding.push_groups.Given as goal

abbrev pub invariant-loop-rest : goal.invariant-loop-rest
invariant-loop-rest l =
    (k : ℕ) × (l.rest < 32 ^ suc k) × (string_bytes l.text ++ groups_text (suc k) l.rest ≡ string_bytes l.fn.text ++ groups_text 7 l.fn.n)

abbrev pub decreases-loop-rest : goal.decreases-loop-rest
decreases-loop-rest l = l.rest
