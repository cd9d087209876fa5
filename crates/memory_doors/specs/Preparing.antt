-- What doors in memory tell before they are opened, and when they are.
use Rattle.std.specs.Prelude.{◌≡◌, ◌+◌, [], ◌∷◌, ◌++◌, length, All, Some, option_map}
use Rattle.road_io.specs.DoorOpening.{Asked, DoorsView, DoorViews, IsNewDoor}

-- none was asked for, none is out, and none came back
abbrev pub new_doors : DoorsView
new_doors = record { opened = Some []; failed = Some []; out = 0; back = Some []; faults = 0 }

-- these doors were given for what was asked: one for queries per worker, each of them new
pub record IsOpening (old : DoorsView) (doors : DoorViews) (new : DoorsView) (words : Asked) : Type 0 where
  pub count : length doors.queries ≡ words.workers
  pub queries : All IsNewDoor doors.queries
  pub control : IsNewDoor doors.control
  pub told : new ≡ record old { opened = option_map (λ all. all ++ words ∷ []) old.opened; out = old.out + (words.workers + 1) }
