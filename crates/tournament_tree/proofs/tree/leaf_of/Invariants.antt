-- The least key stands at the place, so below it, until the place is a leaf.
use Rattle.std.proofs.Common.{◌-◌, ◌≡◌, ◌+◌, ◌<◌, get_or}
use Rattle.tournament_tree.proofs.tree.leaf_of.Given as goal

abbrev pub invariant-loop-place : goal.invariant-loop-place
invariant-loop-place l = record {
  some : 0 < l.place;
  within : l.place < l.count + l.count;
  there : get_or l.words l.place 0 ≡ l.least;
}

abbrev pub decreases-loop-place : goal.decreases-loop-place
decreases-loop-place l = l.count - l.place
