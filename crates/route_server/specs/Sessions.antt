-- A whole query connection.
use Rattle.std.specs.Prelude.{ℕ, ◌≤◌, List, [], ◌∷◌, All, map}
use mathlib.Core.List.{IsPrefix}
use Rattle.http_session.specs.Coming.{IsPartOfHead}
use Rattle.http_session.specs.Ending.{IsSession}
use Rattle.http_session.specs.declared.ended.Ended.{Ended}
use Rattle.metric_publish.specs.History.{last_number}
use Rattle.road_io.specs.Views.{ConnState}
use Rattle.route_server.specs.QueryRule.{QueryRule, IsUnserved}
use Rattle.route_server.specs.Seats.{QuerySays, SeatState}

-- none of these is below the one before it, and the first is not below this
abbrev pub NeverFall : ℕ → List ℕ → Type 0
NeverFall before [] = Unit {0}
NeverFall before (number ∷ more) = (before ≤ number) × NeverFall number more

-- a session by the rule of its exchanges, of a seat that knows this at first and that at last. Each list that the
-- seat read is a front of the last one, so each reply's number is that of an entry of that list; and from one
-- reply to a later one these numbers never fall
pub record IsQuerySession {V : Type 0} (Says : QuerySays V) (first last : SeatState V) (before after : ConnState) (how : Ended) : Type 0 where
  pub session : IsSession (QueryRule Says) IsUnserved IsPartOfHead first last before after how
  pub later : IsPrefix first.seen last.seen
  pub lists : All (λ x. IsPrefix x.after.seen last.seen) session.exchanges
  pub numbers : NeverFall (last_number first.seen) (map (λ x. last_number x.after.seen) session.exchanges)
