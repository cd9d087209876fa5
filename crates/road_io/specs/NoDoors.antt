-- What doors tell that are never there.
use Rattle.std.specs.Prelude.{ℕ, None}
use Rattle.road_io.specs.DoorOpening.{DoorsView}

-- no doors, and so many openings that failed
abbrev pub no_doors : ℕ → DoorsView
no_doors faults = record { opened = None; failed = None; out = 0; back = None; faults = faults }
