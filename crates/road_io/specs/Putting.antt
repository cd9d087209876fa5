-- What stands behind a text that was to be put.
use Rattle.std.specs.Prelude.{List, ℕ, ◌⊎◌}
use Rattle.std.specs.Io.KnownBytes.{Appends}
use Rattle.road_io.specs.Faults.{OutputRose}
use Rattle.road_io.specs.Told.{AppendsFront}
use Rattle.road_io.specs.Views.{OutputView}

-- the output grew by these bytes, or by a proper front of them where it failed
abbrev pub Closes : OutputView → OutputView → List ℕ → Type 0
Closes before after bytes = Appends before.written after.written bytes ⊎ (OutputRose before after × AppendsFront before.written after.written bytes)
