-- What is told of doors over TCP as a whole.
use Rattle.std.specs.Prelude.{ℕ, None}
use Rattle.road_io.specs.DoorOpening.{DoorsView}

-- so many doors are out, and so many faults were counted
abbrev pub doors_told : ℕ → ℕ → DoorsView
doors_told out faults = record { opened = None; failed = None; out = out; back = None; faults = faults }
