-- What the last Learn and the last Enter of a seat leave.
use Rattle.std.specs.Prelude.{◌≡◌, ℕ, List, [], ◌∷◌, ◌++◌}
use mathlib.Core.List.{IsPrefix}
use Rattle.metric_publish.specs.declared.entry.Entry.{Entry}
use Rattle.metric_publish.specs.History.{last_number}
use Rattle.door_workers.specs.declared.posts.Post.{Post}

-- the last list that was read is this one, and the last number that was read is its last one
pub record HasReadAll {V : Type 0} (list seen : List (Entry V)) (reads : List ℕ) : Type 0 where
  pub all : seen ≡ list
  pub last : (earlier : List ℕ) × (reads ≡ earlier ++ last_number list ∷ [])

-- the door is as before, and the seat has seen no less
pub record IsSettled {D S E : Type 0} (p q : Post D S) (seen : S → List E) : Type 0 where
  pub door : q.door ≡ p.door
  pub connections : q.connections ≡ p.connections
  pub later : IsPrefix (seen p.seat) (seen q.seat)
