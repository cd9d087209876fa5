use Rattle.std.proofs.Common.{◌≡◌, ◌-◌, ◌≤◌, length, take}
use Rattle.std.specs.List.{find, range_with_len}
use Rattle.std.specs.Str.{byte}
use Rattle.url_read.specs.Target.{count_of, is_mark, mark_of}
use Rattle.url_read.proofs.parting.mark_in.Given as goal

-- the mark is among the places that are left; the parentheses before this one are counted
abbrev pub invariant-loop-place : goal.invariant-loop-place
invariant-loop-place l = record {
  left : find (is_mark l.target) (range_with_len l.place (length l.target - l.place)) ≡ mark_of l.target;
  opened : l.opened ≡ count_of (byte "(") (take l.place l.target);
  closed : l.closed ≡ count_of (byte ")") (take l.place l.target);
  few_opened : l.opened ≤ l.place;
  few_closed : l.closed ≤ l.place;
}
