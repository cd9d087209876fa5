-- A whole control connection, and a finished one, told by its transcript alone.
use Rattle.std.specs.Prelude.{◌≡◌, List, [], ◌∷◌, Bool, true, false}
use Rattle.http_session.specs.Coming.{IsNoHead}
use Rattle.http_session.specs.Ending.{CutReply, IsSession}
use Rattle.http_session.specs.declared.ended.Ended.{Ended}
use Rattle.http_session.specs.declared.ended.Ended.TheVariants as ended
use Rattle.metric_publish.specs.declared.entry.Entry.{Entry}
use Rattle.road_io.specs.Views.{ConnState, IsFreshConn, Transcript}
use Rattle.route_server.specs.ControlRule.{ControlRule, ControlSays, DeskState, IsPartOfRequest, desk_state}
use Rattle.route_server.specs.declared.control_serving.ControlEnded.{ControlEnded}
use Rattle.route_server.specs.declared.control_serving.ControlEnded.TheVariants as how

module _ {V : Type 0} where
  -- a session by the rule of its exchanges, over a desk with this list and state at first and those at last
  abbrev pub IsDeskSession : ControlSays V → DeskState V → DeskState V → ConnState → ConnState → Ended → Type 0
  IsDeskSession Controls first last before after how = IsSession (ControlRule Controls) IsNoHead IsPartOfRequest first last before after how

  -- it ended in a stop exactly where the reply to one was put whole: where it ended otherwise though a stop was
  -- answered, the output failed in that reply, the last one, and a proper front of it was put
  abbrev pub IsControlSession : ControlSays V → List (Entry V) → List (Entry V) → ConnState → ConnState → ControlEnded → Type 0
  IsControlSession Controls first last before after how.Stopped =
      IsDeskSession Controls (desk_state first false) (desk_state last true) before after ended.Closed
  IsControlSession Controls first last before after (how.Other e) =
      (stopped : Bool) × (session : IsDeskSession Controls (desk_state first false) (desk_state last stopped) before after e)
      × (stopped ≡ true → (e ≡ ended.SinkFault) × CutReply before after session.exchanges)

  -- from a fresh connection it is the session of a desk, which has this list at first and that one at last
  pub record IsControlTranscript (Controls : ControlSays V) (first last : List (Entry V)) (t : Transcript) (how : ControlEnded) : Type 0 where
    pub before : ConnState
    pub fresh : IsFreshConn before
    pub session : IsControlSession Controls first last before t how

  -- the list of publications after these control connections, one behind the other, where it was this one before
  -- them. Each reply that stands whole in a transcript tells what became of its request; of one that was cut the
  -- bytes that were put do, where there are enough
  abbrev pub Publications : ControlSays V → List (Entry V) → List Transcript → List (Entry V) → Type 0
  Publications Controls first [] last = last ≡ first
  Publications Controls first (t ∷ more) last =
      (next : List (Entry V)) × (how : ControlEnded) × IsControlTranscript Controls first next t how × Publications Controls next more last
