-- A finished query connection, told by its transcript alone.
use Rattle.std.specs.Prelude.{List}
use mathlib.Core.List.{IsPrefix}
use Rattle.http_session.specs.declared.ended.Ended.{Ended}
use Rattle.metric_publish.specs.declared.entry.Entry.{Entry}
use Rattle.road_io.specs.Views.{ConnState, IsFreshConn, Transcript}
use Rattle.route_server.specs.Seats.{QuerySays, SeatState}
use Rattle.route_server.specs.SeatLaws.{prefix_then}
use Rattle.route_server.specs.Sessions.{IsQuerySession}

-- from a fresh connection it is the session of some seat, and all lists that the seat read are fronts of this one
pub record IsQueryTranscript {V : Type 0} (Says : QuerySays V) (list : List (Entry V)) (t : Transcript) (how : Ended) : Type 0 where
  pub first : SeatState V
  pub last : SeatState V
  pub before : ConnState
  pub entries : IsPrefix last.seen list
  pub fresh : IsFreshConn before
  pub session : IsQuerySession Says first last before t how

-- a transcript under a list is one under any list that begins with it
pub transcript_widens : {V : Type 0} (Says : QuerySays V) (list longer : List (Entry V)) (t : Transcript) (how : Ended) → IsPrefix list longer → IsQueryTranscript Says list t how → IsQueryTranscript Says longer t how
transcript_widens Says list longer t how more told = record {
  first = told.first;
  last = told.last;
  before = told.before;
  entries = prefix_then told.last.seen list longer told.entries more;
  fresh = told.fresh;
  session = told.session;
}
