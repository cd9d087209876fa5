-- For private functions: how a body is taken, piece by piece.
use Rattle.std.specs.Prelude.{◌≡◌, ℕ, List, [], length, Option, Vec, Result, Ok, Err}
use Rattle.std.specs.Global.{Global}
use Rattle.std.specs.Io.KnownBytes.{IsAtEnd}
use Rattle.road_io.specs.Views.{ConnState}
use Rattle.road_io.specs.declared.failures.Failed.{Failed}
use Rattle.http_session.specs.Bodies.{Holds, Reads}
use Rattle.http_session.specs.Coming.{Grows, IsSteady}
use Rattle.http_session.specs.Taking.{TakesNone}

-- where nothing was unread, bytes were taken; so many are unread then, and none only at the end of the input
pub record FillsSome (before after : ConnState) (unread now : List ℕ) (count : ℕ) : Type 0 where
  pub grows : Grows before after unread now
  pub steady : IsSteady before after
  pub size : length now ≡ count
  pub at_end : count ≡ 0 → IsAtEnd after.source.left

pub record FillsNone (before after : ConnState) (unread now : List ℕ) : Type 0 where
  pub empty : unread ≡ []
  pub takes : TakesNone before after unread now

abbrev pub Fills : ConnState → ConnState → List ℕ → List ℕ → Result ℕ Failed → Type 0
Fills before after unread now (Ok count) = FillsSome before after unread now count
Fills before after unread now (Err failed) = FillsNone before after unread now

-- so much of the body was taken
pub record BodySoFar (before after : ConnState) (unread now : List ℕ) (kept : Option (Vec ℕ Global)) (count : ℕ) : Type 0 where
  pub part : List ℕ
  pub size : length part ≡ count
  pub holds : Holds kept part
  pub reads : Reads before after unread now part
  pub steady : IsSteady before after
