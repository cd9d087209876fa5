-- One call of `take_from`: bytes behind those that are not yet read.
use Rattle.std.specs.Prelude.{◌≡◌, ℕ, List, ◌++◌, length, Result, Ok, Err}
use Rattle.std.specs.Io.KnownBytes.{Keeps, IsAtEnd}
use Rattle.road_io.specs.Exchanging.{KeepsSink}
use Rattle.road_io.specs.Faults.{InputRose}
use Rattle.road_io.specs.Taking.{Took}
use Rattle.road_io.specs.Views.{ConnState}
use Rattle.road_io.specs.declared.failures.Failed.{Failed}

-- so many bytes were taken, and stand behind the others; none is the end of the input
pub record TakesSome (before after : ConnState) (unread now : List ℕ) (count : ℕ) : Type 0 where
  pub got : List ℕ
  pub size : length got ≡ count
  pub longer : now ≡ unread ++ got
  pub took : Took before.source after.source got
  pub at_end : count ≡ 0 → IsAtEnd after.source.left
  pub steady : after.source.faults ≡ before.source.faults
  pub sink : KeepsSink before after

-- the input failed, and gave nothing
pub record TakesNone (before after : ConnState) (unread now : List ℕ) : Type 0 where
  pub same : now ≡ unread
  pub left : Keeps before.source.left after.source.left
  pub rose : InputRose before.source after.source
  pub sink : KeepsSink before after

abbrev pub Takes : ConnState → ConnState → List ℕ → List ℕ → Result ℕ Failed → Type 0
Takes before after unread now (Ok count) = TakesSome before after unread now count
Takes before after unread now (Err failed) = TakesNone before after unread now
