-- All words but the one above the place are right.
use Rattle.std.proofs.Common.{◌≡◌, ◌+◌, ◌-◌, ◌/◌, ◌<◌, drop, get_or}
use Rattle.tournament_tree.specs.Nodes.{AreNodesBut}
use Rattle.tournament_tree.proofs.tree.raise_above.Given as goal

abbrev pub invariant-loop-place : goal.invariant-loop-place
invariant-loop-place l = record {
  nodes : AreNodesBut l.words l.count (l.place / 2);
  leaves : drop l.count l.words ≡ drop l.count l.initial.words;
  some : 0 < l.place;
  within : l.place < l.count + l.count;
  here : get_or l.words l.place 0 ≡ l.key;
}

abbrev pub decreases-loop-place : goal.decreases-loop-place
decreases-loop-place l = l.place - 1
