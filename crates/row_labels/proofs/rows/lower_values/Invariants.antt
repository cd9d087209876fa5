-- The places so far are gone along.
use Rattle.std.proofs.Common.{◌≡◌, ◌≤◌, ◌-◌, length}
use Rattle.row_labels.specs.Lowered.{Lowers}
use Rattle.row_labels.proofs.rows.lower_values.Given as goal

abbrev pub invariant-loop-place : goal.invariant-loop-place
invariant-loop-place g l = record {
  count : l.place ≤ l.offers.count;
  room : length l.words ≡ length l.initial.words;
  lowers : Lowers g.C.Cost.ops l.first l.initial.words l.words l.offers.paid l.offers.costs.now l.place l.improved.items;
}

abbrev pub decreases-loop-place : goal.decreases-loop-place
decreases-loop-place g l = l.offers.count - l.place
