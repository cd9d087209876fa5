use Rattle.std.proofs.Common.{◌≡◌, ◌≤◌, take, count_by}
use Rattle.map_loading.specs.Counting.{is_of}
use Rattle.map_loading.proofs.counting.count_of.Given as goal

-- the objects of the kind so far are counted
abbrev pub invariant-loop-object : goal.invariant-loop-object
invariant-loop-object l = record {
  so_far : l.count ≡ count_by (is_of l.kind) (take l.object-index l.objects);
  few : l.count ≤ l.object-index;
}
