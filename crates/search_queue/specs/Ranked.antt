-- Private to this crate: the entries of the heap of ranks, each compared as one number.
use Rattle.std.specs.Prelude.{ℕ, ◌+◌, ◌-◌, ◌*◌, ◌<◌, ◌^◌, List}
use Rattle.std.specs.List.{Contains}
use Rattle.std.specs.Ordering.{nat_cmp}
use Rattle.std.specs.declared.cmp.Ordering.{Ordering}
use Rattle.std.specs.declared.cmp.Reverse.{Reverse}
use Rattle.search_queue.specs.declared.rank_heap.Ranked.{Ranked}

-- an entry as one number: its rank counts before its vertex
abbrev pub number_of : Ranked → ℕ
number_of e = e.rank * 18446744073709551616 + e.from_last

-- the order in which std's heap has the entries: the least number is the greatest
abbrev pub ranked_cmp : Reverse Ranked → Reverse Ranked → Ordering
ranked_cmp x y = nat_cmp (number_of y.0) (number_of x.0)

-- an entry of the heap, read as a rank and a vertex
abbrev pub ranked_of : Reverse Ranked → ℕ × ℕ
ranked_of e = (e.0.rank, 4294967295 - e.0.from_last)

-- no vertex of an entry is further from the last number than 0 is
abbrev pub AreNear : List (Reverse Ranked) → Type 0
AreNear entries = (e : _) → Contains entries e → e.0.from_last < 2 ^ 32
