use Rattle.std.proofs.Common.{◌≡◌, ℕ, ◌==◌, ◌&&◌, ◌||◌, take}
use Rattle.std.specs.HashSet.{contains}
use Rattle.std.specs.List.{list_any}
use Rattle.via_paths.specs.Tries.{pair_eq}
use Rattle.via_paths.proofs.ends.push_ends.Given as goal

abbrev pub invariant-loop-i : goal.invariant-loop-i
invariant-loop-i l = (h e : ℕ) → contains pair_eq l.vertices (h, e) ≡ (contains pair_eq l.fn.vertices (h, e) || ((l.group == h) && list_any (λ x. x == e) (take l.i l.ends)))
