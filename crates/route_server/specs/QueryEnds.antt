-- The input of a query connection that had no fault tells which requests are answered and how it ends, but for the
-- parser's choice; whatever the board, and whatever is said.
use Rattle.std.specs.Prelude.{◌≡◌, ℕ, List, Some}
use Rattle.std.proofs.Common.{inl}
use Rattle.http_session.specs.Coming.{IsPartOfHead}
use Rattle.http_session.specs.declared.ended.Ended.{Ended}
use Rattle.road_io.specs.Views.{ConnState}
use Rattle.route_server.specs.CutLaws.{AreSameRequests}
use Rattle.route_server.specs.EndLaws.{EndSame, IsFaultless, ends_agree}
use Rattle.route_server.specs.HeadRules.{query_goes, query_heads}
use Rattle.route_server.specs.QueryRule.{IsUnserved, QueryRule}
use Rattle.route_server.specs.Seats.{QuerySays, SeatState}
use Rattle.route_server.specs.Sessions.{IsQuerySession}

-- a query connection whose input, told, was this, and which ended so, without a fault
pub record QueryRun {V : Type 0} (Says : QuerySays V) (input : List ℕ) (how : Ended) : Type 0 where
  pub first : SeatState V
  pub last : SeatState V
  pub before : ConnState
  pub after : ConnState
  pub run : IsQuerySession Says first last before after how
  pub given : before.source.left ≡ Some input
  pub faultless : IsFaultless how

pub query_ends_agree : {V W : Type 0} (Says : QuerySays V) (Others : QuerySays W) (input : List ℕ) (how end : Ended) (one : QueryRun Says input how) (two : QueryRun Others input end) → EndSame how end × AreSameRequests one.run.session.exchanges two.run.session.exchanges
query_ends_agree Says Others input how end one two =
    ends_agree query_heads (QueryRule Says) (QueryRule Others) IsUnserved IsPartOfHead (query_goes Says) (query_goes Others) (λ xs bad. bad) (λ xs part. inl part) input
    one.first one.last one.before one.after how two.first two.last two.before two.after end
    one.run.session two.run.session one.given two.given one.faultless two.faultless
