-- How rises of a count of faults add up.
use Rattle.std.specs.Prelude.{ℕ, ◌-◌, ◌^◌, ◌≤◌}
use Rattle.std.proofs.Common.{le_trans}
use Rattle.list_lemmas.proofs.Counts.{count_later}
use Rattle.road_io.specs.Faults.{Rose}

-- a rise stays one when the count goes on
pub rose_then : (before mid now : ℕ) → Rose before mid → mid ≤ now → Rose before now
rose_then before mid now rose later = le_trans rose later

-- and it is one from any earlier count
pub rose_since : (before mid now : ℕ) → before ≤ mid → Rose mid now → Rose before now
rose_since before mid now later rose = le_trans (count_later (2 ^ 64 - 1) before mid 1 later) rose
