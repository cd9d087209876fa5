-- What goes on behind the vertices so far is the rest of the trail.
use Rattle.std.proofs.Common.{◌≡◌, ℕ, ◌<◌, Some, List, ◌++◌, length}
use Rattle.step_search.specs.Progress.{IsTrail}
use Rattle.step_search.proofs.Trails.{steps_left}
use Rattle.step_search.proofs.dijkstra.walk_to.Given as goal

abbrev pub invariant-loop-next : goal.invariant-loop-next
invariant-loop-next g l = record {
  in_range : (i : ℕ) → l.next ≡ Some i → i < length l.tree;
  trail : (rest : List ℕ) → IsTrail l.tree l.next rest → IsTrail l.tree (Some l.at) (l.walk.items ++ rest);
}

abbrev pub decreases-loop-next : goal.decreases-loop-next
decreases-loop-next g l = steps_left l.next
