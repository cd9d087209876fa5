-- What was taken of an input, in one call and in many.
use Rattle.std.specs.Prelude.{◌≡◌, ℕ, ◌+◌, ◌-◌, ◌^◌, ◌<◌, ◌≤◌, min, List, length}
use Rattle.std.specs.Io.KnownBytes.{Consumes}
use Rattle.road_io.specs.Views.{InputView}

-- the input gave these bytes
pub record Took (before after : InputView) (bytes : List ℕ) : Type 0 where
  pub given : Consumes before.left after.left bytes
  pub counted : after.taken ≡ min (before.taken + length bytes) (2 ^ 64 - 1)

-- the input gave these bytes, perhaps in no call at all
pub record TookSoFar (before after : InputView) (bytes : List ℕ) : Type 0 where
  pub given : Consumes before.left after.left bytes
  pub counted : min after.taken (2 ^ 64 - 1) ≡ min (before.taken + length bytes) (2 ^ 64 - 1)
  pub within : 0 < length bytes → after.taken ≤ 2 ^ 64 - 1
