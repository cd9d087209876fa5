-- All words but the one at the place are right, and that one is, or key in its place would be.
use Rattle.std.proofs.Common.{◌≡◌, ◌<◌, drop}
use Rattle.tournament_tree.specs.Nodes.{AreNodesBelow}
use Rattle.tournament_tree.proofs.tree.lower_above.Given as goal

abbrev pub invariant-loop-place : goal.invariant-loop-place
invariant-loop-place l = record {
  nodes : AreNodesBelow l.words l.count l.place l.key;
  leaves : drop l.count l.words ≡ drop l.count l.initial.words;
  inner : l.place < l.count;
}

abbrev pub decreases-loop-place : goal.decreases-loop-place
decreases-loop-place l = l.place
